-- 10, 5 and 7 first; where they pass, the chip's share is lent out and comes back in its place.
use Prim.Native.Nat.{◌-◌}
use native.Mathlib.Omega.{arith}
use mathlib.Core.Path.{◌≡◌, ◌∙◌, sym, ap}
use lib.ListN.{length}
use borrow.Author.Rules.{rules}
use Rattle.std.specs.Prelude.{Ok}
use Rattle.refusal.specs.Checks.{first_of}
use Rattle.lineup.specs.Chips.{places_of}
use Rattle.bus.specs.Step.{chip_checks}
use Rattle.bus.proofs.Entry.{passed, named}
use Rattle.image.specs.Load.{Loaded, refused_at, load_share, load}
use Rattle.image.proofs.share.Laws.{Lies, share_length, lies}
use Rattle.image.proofs.loading.Laws.{refused, back_in_place}
use Rattle.image.proofs.loading.load.Goals as goal

place : (c : goal.After-share_of) → Lies c.args.bus c.args.array.now c.args.chip c.share_of.result
place c =
    let a = c.args in
    lies a.bus a.array.now a.security.now a.chip
    (named a.bus a.array.now a.security.now a.chip (sym c.chip_verdict.ensures ∙ passed c.chip_verdict.result (search rules))) c.share_of.ensures

pub slice_bounds-load_share-count : goal.slice_bounds-load_share-count
slice_bounds-load_share-count c = omega (arith, (place c).ends)

pub slice_bounds-load_share-start : goal.slice_bounds-load_share-start
slice_bounds-load_share-start c = omega (arith, (place c).ends)

pub slice_bounds-load_share-end : goal.slice_bounds-load_share-end
slice_bounds-load_share-end c = (place c).fits

pub returns-in_err-map_err : goal.returns-in_err-map_err
unfolding load
returns-in_err-map_err c =
    let (refusal, is) = refused c.chip_verdict.result (search rules) in
    let said : c.from_residual.result ≡ refused_at refusal 0 = search rules in
    rw (sym c.chip_verdict.ensures ∙ is) (ap (λ (end : Loaded). (end, c.args.array.now)) said)

pub returns : goal.returns
unfolding load
returns c =
    let a = c.args in
    let passes : first_of (chip_checks a.bus a.array.now a.security.now a.chip) ≡ Ok tt = sym c.chip_verdict.ensures ∙ passed c.chip_verdict.result (search rules) in
    let is_named = named a.bus a.array.now a.security.now a.chip passes in
    let lying : Lies a.bus a.array.now a.chip c.share_of.result = lies a.bus a.array.now a.security.now a.chip is_named c.share_of.ensures in
    let lent = c.load_share in
    let long : length lent.new.share ≡ c.share_of.result.end - c.share_of.result.start =
    lent.auto.share ∙ ap length lying.lent ∙ share_length a.bus a.array.now a.security.now a.chip is_named ∙ omega (arith, lying.ends)
    in
    rw passes
    (back_in_place (places_of a.bus.chips) a.chip a.array.now c.share_of.result.start c.share_of.result.end lying.starts long (lent.ensures ∙ ap (load_share a.text.now) lying.lent))
