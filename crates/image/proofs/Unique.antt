-- Every public contract of this crate leaves one outcome: any two that it allows are equal, each lent store as the function
-- returns included.
use Prim.Native.Nat.{ℕ}
use mathlib.Core.List.{List}
use Rattle.base.proofs.Unique.{Unique, UniqueOutcome, same}
use Rattle.image.specs.Load.{Loaded}
use Rattle.image.specs.Save.{Saved}
use Rattle.image.proofs.share.share_of.Kinds as share_of_kinds
use Rattle.image.proofs.share.share_of.Reads as share_of_reads
use Rattle.image.proofs.loading.load.Kinds as load_kinds
use Rattle.image.proofs.loading.load.Reads as load_reads
use Rattle.image.proofs.saving.save.Kinds as save_kinds
use Rattle.image.proofs.saving.save.Reads as save_reads

pub share_of_unique : Unique share_of_kinds.ps share_of_kinds.r share_of_reads.Post
share_of_unique κs args x y at_x at_y = same

pub load_unique : UniqueOutcome load_kinds.ps load_kinds.r (Loaded × List ℕ) (λ κs result at. (result, at.1.0.now)) load_reads.Post
load_unique κs args x y at_x at_y = same

pub save_unique : UniqueOutcome save_kinds.ps save_kinds.r (Saved × List ℕ) (λ κs result at. (result, at.1.1.1.1.0.now)) save_reads.Post
save_unique κs args x y at_x at_y = same
