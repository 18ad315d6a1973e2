-- Where the checks pass, the chip's share is the part of the array store that is lent, and the buffer has room for its text.
use Prim.Native.Nat.{ℕ}
use native.Mathlib.Omega.{arith}
use mathlib.Core.List.{List}
use mathlib.Core.Path.{◌≡◌, ◌∙◌, sym, ap}
use borrow.Author.Rules.{rules}
use Rattle.parts.proofs.part.Laws.{sound_of}
use Rattle.std.specs.Prelude.{Ok}
use Rattle.refusal.specs.Checks.{first_of}
use Rattle.board.specs.Place.{place_at}
use Rattle.lineup.specs.Chips.{places_of}
use Rattle.image.specs.Save.{Saved, save_checks, put_text, save}
use Rattle.image.proofs.share.Laws.{Lies, share_length, lies}
use Rattle.image.proofs.saving.Laws.{save_named, save_room, saved_share}
use Rattle.image.proofs.saving.save.Goals as goal

pub returns-in_err-save_verdict : goal.returns-in_err-save_verdict
unfolding save
returns-in_err-save_verdict c = rw (sym c.save_verdict.ensures ∙ c.in_err-save_verdict.was) (search rules)

abbrev done : ℕ × List ℕ → Saved × List ℕ
done (written, text) = (Ok written, text)

passes : (c : goal.After-share_of) → first_of (save_checks c.args.bus c.args.array.now c.args.security.now c.args.chip c.args.text.now) ≡ Ok tt
passes c = sym c.save_verdict.ensures ∙ c.in_ok-save_verdict.was

place : (c : goal.After-share_of) → Lies c.args.bus c.args.array.now c.args.chip c.share_of.result
place c =
    let a = c.args in
    lies a.bus a.array.now a.security.now a.chip (save_named a.bus a.array.now a.security.now a.chip a.text.now (passes c)) c.share_of.ensures

pub slice_bounds-put_text-count : goal.slice_bounds-put_text-count
slice_bounds-put_text-count c = omega (arith, (place c).ends)

pub slice_bounds-put_text-start : goal.slice_bounds-put_text-start
slice_bounds-put_text-start c = omega (arith, (place c).ends)

pub slice_bounds-put_text-end : goal.slice_bounds-put_text-end
slice_bounds-put_text-end c = (place c).fits

pub put_text-requires : goal.put_text-requires
put_text-requires c =
    let a = c.args in
    let passes : first_of (save_checks a.bus a.array.now a.security.now a.chip a.text.now) ≡ Ok tt = sym c.save_verdict.ensures ∙ c.in_ok-save_verdict.was in
    let is_named = save_named a.bus a.array.now a.security.now a.chip a.text.now passes in
    let lying : Lies a.bus a.array.now a.chip c.share_of.result = lies a.bus a.array.now a.security.now a.chip is_named c.share_of.ensures in
    rw (lying.lent, share_length a.bus a.array.now a.security.now a.chip is_named) (
      (sound_of (place_at (places_of a.bus.chips) a.chip).part).array_most,
      save_room a.bus a.array.now a.security.now a.chip a.text.now passes,
    )

pub returns : goal.returns
returns c =
    let a = c.args in
    let passes : first_of (save_checks a.bus a.array.now a.security.now a.chip a.text.now) ≡ Ok tt = sym c.save_verdict.ensures ∙ c.in_ok-save_verdict.was in
    let is_named = save_named a.bus a.array.now a.security.now a.chip a.text.now passes in
    let lying : Lies a.bus a.array.now a.chip c.share_of.result = lies a.bus a.array.now a.security.now a.chip is_named c.share_of.ensures in
    ap done (c.put_text.ensures ∙ ap (λ (share : List ℕ). put_text share a.text.now) lying.lent)
    ∙ sym (saved_share a.bus a.array.now a.security.now a.chip a.text.now passes)
