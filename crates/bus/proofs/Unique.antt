-- Every public contract of this crate leaves one outcome: any two that it allows are equal, each lent store as the
-- function returns included.
use Rattle.base.proofs.Unique.{Unique, UniqueOutcome, same}
use Prim.Native.Nat.{ℕ}
use mathlib.Core.List.{List}
use Rattle.bus.specs.declared.Stepped.{Stepped}
use Rattle.refusal.specs.Verdict.{Verdict}
use Rattle.bus.specs.Step.{answered}
use Rattle.bus.specs.Run.{Progress, outcome}
use Rattle.bus.proofs.Bus.empty.Kinds as empty_kinds
use Rattle.bus.proofs.Bus.empty.Reads as empty_reads
use Rattle.bus.proofs.Bus.set_up.Kinds as set_up_kinds
use Rattle.bus.proofs.Bus.set_up.Reads as set_up_reads
use Rattle.bus.proofs.Bus.well_formed.Kinds as well_formed_kinds
use Rattle.bus.proofs.Bus.well_formed.Reads as well_formed_reads
use Rattle.bus.proofs.Bus.entry_verdict.Kinds as entry_verdict_kinds
use Rattle.bus.proofs.Bus.entry_verdict.Reads as entry_verdict_reads
use Rattle.bus.proofs.Bus.chip_verdict.Kinds as chip_verdict_kinds
use Rattle.bus.proofs.Bus.chip_verdict.Reads as chip_verdict_reads
use Rattle.bus.proofs.Bus.step.Kinds as step_kinds
use Rattle.bus.proofs.Bus.step.Reads as step_reads
use Rattle.bus.proofs.Bus.step_given.Kinds as step_given_kinds
use Rattle.bus.proofs.Bus.step_given.Reads as step_given_reads
use Rattle.bus.proofs.Bus.step_lent.Kinds as step_lent_kinds
use Rattle.bus.proofs.Bus.step_lent.Reads as step_lent_reads
use Rattle.bus.proofs.Bus.run.Kinds as run_kinds
use Rattle.bus.proofs.Bus.run.Reads as run_reads

pub empty_unique : Unique empty_kinds.ps empty_kinds.r empty_reads.Post
empty_unique κs args x y at_x at_y = same

pub set_up_unique : Unique set_up_kinds.ps set_up_kinds.r set_up_reads.Post
set_up_unique κs args x y at_x at_y = same

pub well_formed_unique : Unique well_formed_kinds.ps well_formed_kinds.r well_formed_reads.Post
well_formed_unique κs args x y at_x at_y = same

pub entry_verdict_unique : Unique entry_verdict_kinds.ps entry_verdict_kinds.r entry_verdict_reads.Post
entry_verdict_unique κs args x y at_x at_y = same

pub chip_verdict_unique : Unique chip_verdict_kinds.ps chip_verdict_kinds.r chip_verdict_reads.Post
chip_verdict_unique κs args x y at_x at_y = same

pub step_unique : UniqueOutcome step_kinds.ps step_kinds.r (Stepped × List ℕ × List ℕ) (λ κs result at. (result, at.1.0.now, at.1.1.0.now)) step_reads.Post
step_unique κs args x y at_x at_y = same

pub step_given_unique : UniqueOutcome step_given_kinds.ps step_given_kinds.r (Stepped × List ℕ × List ℕ) (λ κs result at. (result, at.1.1.0.now, at.1.1.1.0.now)) step_given_reads.Post
step_given_unique κs args x y at_x at_y = same

pub step_lent_unique : UniqueOutcome step_lent_kinds.ps step_lent_kinds.r (Stepped × List ℕ × List ℕ) (λ κs result at. (answered at.0.now result, at.1.1.0.now, at.1.1.1.0.now)) step_lent_reads.Post
step_lent_unique κs args x y at_x at_y = same

pub run_unique : UniqueOutcome run_kinds.ps run_kinds.r (Verdict × Progress) (λ κs result at. outcome result at.1.0.now at.1.1.0.now at.1.1.1.1.0.now) run_reads.Post
run_unique κs args x y at_x at_y = same
