-- Every public contract of this crate leaves one outcome: any two that it allows are equal, each lent store as the function
-- returns included.
use Prim.Native.Nat.{ℕ}
use mathlib.Core.List.{List}
use Rattle.chip.specs.declared.Chip.{Chip}
use Rattle.chip.specs.declared.Stepped.{Stepped}
use Rattle.base.proofs.Unique.{Unique, UniqueOutcome, same}
use Rattle.chip.proofs.Chip.fresh.Kinds as fresh_kinds
use Rattle.chip.proofs.Chip.fresh.Reads as fresh_reads
use Rattle.chip.proofs.Chip.start.Kinds as start_kinds
use Rattle.chip.proofs.Chip.start.Reads as start_reads
use Rattle.chip.proofs.Chip.take.Kinds as take_kinds
use Rattle.chip.proofs.Chip.take.Reads as take_reads
use Rattle.chip.proofs.Chip.read.Kinds as read_kinds
use Rattle.chip.proofs.Chip.read.Reads as read_reads
use Rattle.chip.proofs.Chip.stop.Kinds as stop_kinds
use Rattle.chip.proofs.Chip.stop.Reads as stop_reads
use Rattle.chip.proofs.Chip.wp.Kinds as wp_kinds
use Rattle.chip.proofs.Chip.wp.Reads as wp_reads
use Rattle.chip.proofs.Chip.cycle_over.Kinds as cycle_over_kinds
use Rattle.chip.proofs.Chip.cycle_over.Reads as cycle_over_reads
use Rattle.chip.proofs.Chip.power_up.Kinds as power_up_kinds
use Rattle.chip.proofs.Chip.power_up.Reads as power_up_reads
use Rattle.chip.proofs.Chip.moved.Kinds as moved_kinds
use Rattle.chip.proofs.Chip.moved.Reads as moved_reads

pub fresh_unique : Unique fresh_kinds.ps fresh_kinds.r fresh_reads.Post
fresh_unique κs args x y at_x at_y = same

pub start_unique : Unique start_kinds.ps start_kinds.r start_reads.Post
start_unique κs args x y at_x at_y = same

pub take_unique : UniqueOutcome take_kinds.ps take_kinds.r (Stepped × List ℕ) (λ κs result at. (result, at.1.1.1.0.now)) take_reads.Post
take_unique κs args x y at_x at_y = same

pub read_unique : Unique read_kinds.ps read_kinds.r read_reads.Post
read_unique κs args x y at_x at_y = same

pub stop_unique : UniqueOutcome stop_kinds.ps stop_kinds.r (Chip × List ℕ × List ℕ) (λ κs result at. (result, at.1.1.0.now, at.1.1.1.0.now)) stop_reads.Post
stop_unique κs args x y at_x at_y = same

pub wp_unique : Unique wp_kinds.ps wp_kinds.r wp_reads.Post
wp_unique κs args x y at_x at_y = same

pub cycle_over_unique : Unique cycle_over_kinds.ps cycle_over_kinds.r cycle_over_reads.Post
cycle_over_unique κs args x y at_x at_y = same

pub power_up_unique : Unique power_up_kinds.ps power_up_kinds.r power_up_reads.Post
power_up_unique κs args x y at_x at_y = same

pub moved_unique : Unique moved_kinds.ps moved_kinds.r moved_reads.Post
moved_unique κs args x y at_x at_y = same
