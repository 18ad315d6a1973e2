-- A load that is refused, for whatever reason, stores no byte, and a save that is refused writes none. A save that is done writes the text at
-- the buffer's start, so what stands behind it stays.
use Prim.Native.Nat.{ℕ}
use mathlib.Core.Bool.{false≢true}
use mathlib.Core.List.{List}
use mathlib.Core.Path.{◌≡◌, ◌∙◌, sym, ap}
use lib.ListN.{drop}
use lib.Seq.{drop-append_seam}
use Rattle.refusal.specs.declared.Refusal.{Refusal}
use Rattle.refusal.specs.Verdict.{Verdict}
use Rattle.std.specs.Prelude.{Ok, Err}
use Rattle.refusal.specs.Checks.{first_of}
use Rattle.std.specs.Result.{is_ok}
use Rattle.lineup.specs.Chips.{places_of}
use Rattle.bus.specs.declared.Bus.{Bus}
use Rattle.image.specs.declared.loading.LoadError.{LoadError}
use Rattle.image.specs.Load.{Loaded, load}
use Rattle.image.specs.Rows.{saved_text}
use Rattle.image.specs.Save.{Saved, save_checks, save_by, save}
use Rattle.image.proofs.Loads.{Outcome, NotReached, NotTaken, Stored, outcome}
use Rattle.image.proofs.Saved.{share_at, saved_as, written_count}

module _ (bus : Bus) (array security : List ℕ) (k : ℕ) where
  pub refused_load_stores_nothing : (text : List ℕ) (error : LoadError) → (load bus array security k text).0 ≡ Err error
      → (load bus array security k text).1 ≡ array
  refused_load_stores_nothing text error refused = go (outcome bus array security k text)
    where
      go : Outcome bus array security k text → (load bus array security k text).1 ≡ array
      go (NotReached other said is) = ap (λ (end : Loaded × List ℕ). end.1) is
      go (NotTaken other passed said is) = ap (λ (end : Loaded × List ℕ). end.1) is
      go (Stored passed said is) = absurd (false≢true (ap is_ok (sym refused ∙ ap (λ (end : Loaded × List ℕ). end.0) is)))

  pub refused_save_writes_nothing : (buffer : List ℕ) (refusal : Refusal) → (save bus array security k buffer).0 ≡ Err refusal
      → save bus array security k buffer ≡ (Err refusal, buffer)
  unfolding save
  refused_save_writes_nothing buffer refusal = go (first_of (save_checks bus array security k buffer))
    where
      go : (verdict : Verdict) → (save_by verdict (places_of bus.chips) array k buffer).0 ≡ Err refusal
          → save_by verdict (places_of bus.chips) array k buffer ≡ (Err refusal, buffer)
      go (Ok tt) refused = absurd (false≢true (ap is_ok (sym refused)))
      go (Err other) refused = ap (λ (saved : Saved). (saved, buffer)) refused

  pub saving_keeps_the_rest : (buffer : List ℕ) (written : ℕ) → (save bus array security k buffer).0 ≡ Ok written
      → drop written (save bus array security k buffer).1 ≡ drop written buffer
  saving_keeps_the_rest buffer written passes =
      rw (sym (written_count bus array security k buffer written passes), saved_as bus array security k buffer written passes)
      (drop-append_seam (saved_text (share_at bus array k)) _)
