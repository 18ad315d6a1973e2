-- Only a Stop changes a store: in particular nothing is stored when a byte is acknowledged. Only a byte sent changes the
-- values.
use Prim.Native.Nat.{ℕ}
use mathlib.Core.Bool.{Bool, true, false, false≢true}
use mathlib.Core.List.{List}
use mathlib.Core.Path.{◌≡◌, refl, sym}
use Rattle.chip.specs.declared.Chip.{Chip}
use Rattle.chip.specs.declared.event.Event.{Event}
use Rattle.chip.specs.declared.event.Event.TheVariants.{Start, Stop, Sent, Read, Wp, CycleOver, PowerUp}
use Rattle.chip.specs.Chip.{quiet, moved, meets_nothing, step, values_after}

abbrev pub is_stop : Event → Bool
is_stop Start = false
is_stop Stop = true
is_stop (Sent first byte) = false
is_stop (Read nack) = false
is_stop (Wp level) = false
is_stop CycleOver = false
is_stop PowerUp = false

abbrev pub is_sent : Event → Bool
is_sent Start = false
is_sent Stop = false
is_sent (Sent first byte) = true
is_sent (Read nack) = false
is_sent (Wp level) = false
is_sent CycleOver = false
is_sent PowerUp = false

module _ (c : Chip) (values array security : List ℕ) where
  pub only_stop_stores : (event : Event) → is_stop event ≡ false → ((step c values array security event).1 ≡ array) × ((step c values array security event).2 ≡ security)
  unfolding step
  only_stop_stores Start other = (refl, refl)
  only_stop_stores Stop other = absurd (false≢true (sym other))
  only_stop_stores (Sent first byte) other = (refl, refl)
  only_stop_stores (Read nack) other = (refl, refl)
  only_stop_stores (Wp level) other = (refl, refl)
  only_stop_stores CycleOver other = (refl, refl)
  only_stop_stores PowerUp other = (refl, refl)

  -- an event that meets neither stores nor values moves the chip alone
  pub moves_alone : (event : Event) → meets_nothing event ≡ true → step c values array security event ≡ (quiet (moved c event), array, security)
  unfolding step
  moves_alone Start alone = refl
  moves_alone Stop alone = absurd (false≢true alone)
  moves_alone (Sent first byte) alone = absurd (false≢true alone)
  moves_alone (Read nack) alone = absurd (false≢true alone)
  moves_alone (Wp level) alone = refl
  moves_alone CycleOver alone = refl
  moves_alone PowerUp alone = refl

  pub only_sent_loads : (event : Event) → is_sent event ≡ false → values_after c event values ≡ values
  unfolding values_after
  only_sent_loads Start other = refl
  only_sent_loads Stop other = refl
  only_sent_loads (Sent first byte) other = absurd (false≢true (sym other))
  only_sent_loads (Read nack) other = refl
  only_sent_loads (Wp level) other = refl
  only_sent_loads CycleOver other = refl
  only_sent_loads PowerUp other = refl
