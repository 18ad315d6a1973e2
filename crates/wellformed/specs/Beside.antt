-- Two chips on one line: what makes a state well formed of them beside each other (paper, "Well formed means").
use Rattle.std.specs.Prelude.{Bool, not, ◌&&◌, ◌||◌}
use Rattle.control.specs.declared.Control.{Control}
use Rattle.control.specs.Phase.{is_sending, is_taking, is_awaiting, awaits_address}

-- sending, chosen or taking word-address or data bytes
abbrev pub is_active : Control → Bool
is_active c = c.chosen || (is_sending c.phase || (is_taking c.phase && not (is_awaiting c.phase)))

-- at most one chip in all is
abbrev pub not_both_active : Control → Control → Bool
not_both_active c d = not (is_active c && is_active d)

-- while another chip awaits a byte, that one is only chosen and awaits an address byte too
abbrev pub waits_too : Control → Control → Bool
waits_too c other = not (is_active c && is_awaiting other.phase) || awaits_address c.phase

abbrev pub side_by_side : Control → Control → Bool
side_by_side c d = not_both_active c d && (waits_too c d && waits_too d c)
