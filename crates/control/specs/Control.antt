-- A chip without its page load, fresh and with one thing changed.
use Rattle.std.specs.Prelude.{ℕ, Bool, true, false}
use Rattle.control.specs.declared.Control.{Control}
use Rattle.control.specs.declared.phase.Phase.{Phase}
use Rattle.control.specs.declared.phase.Phase.TheVariants.{Standby}
use Rattle.control.specs.declared.phase.Shown.{Shown}
use Rattle.control.specs.declared.phase.Shown.TheVariants.{ShowsSecurity}

-- all SWP bits, EWPM and LOCK at 0, ID page unlocked, WP low, both counters 0, not busy (paper, "The two memories"); a 1011
-- read shows the security register (paper, "Security register")
abbrev pub fresh : ℕ → ℕ → Control
fresh part strap =
    record {
      part = part;
      strap = strap;
      wp = false;
      config0 = 0;
      config1 = 0;
      idlocked = false;
      arraycounter = 0;
      securitycounter = 0;
      shown = ShowsSecurity;
      chosen = false;
      phase = Standby;
    }

-- in another phase
abbrev pub in_phase : Phase → Control → Control
in_phase phase c =
    record {
      part = c.part;
      strap = c.strap;
      wp = c.wp;
      config0 = c.config0;
      config1 = c.config1;
      idlocked = c.idlocked;
      arraycounter = c.arraycounter;
      securitycounter = c.securitycounter;
      shown = c.shown;
      chosen = c.chosen;
      phase = phase;
    }

-- whose 1011 reads show something else
abbrev pub showing : Shown → Control → Control
showing shown c =
    record {
      part = c.part;
      strap = c.strap;
      wp = c.wp;
      config0 = c.config0;
      config1 = c.config1;
      idlocked = c.idlocked;
      arraycounter = c.arraycounter;
      securitycounter = c.securitycounter;
      shown = shown;
      chosen = c.chosen;
      phase = c.phase;
    }

-- picked by F8h and its address, or not
abbrev pub choosing : Bool → Control → Control
choosing picked c =
    record {
      part = c.part;
      strap = c.strap;
      wp = c.wp;
      config0 = c.config0;
      config1 = c.config1;
      idlocked = c.idlocked;
      arraycounter = c.arraycounter;
      securitycounter = c.securitycounter;
      shown = c.shown;
      chosen = picked;
      phase = c.phase;
    }

-- with its array counter elsewhere
abbrev pub arraycounter_at : ℕ → Control → Control
arraycounter_at at c =
    record {
      part = c.part;
      strap = c.strap;
      wp = c.wp;
      config0 = c.config0;
      config1 = c.config1;
      idlocked = c.idlocked;
      arraycounter = at;
      securitycounter = c.securitycounter;
      shown = c.shown;
      chosen = c.chosen;
      phase = c.phase;
    }

-- with its security counter elsewhere
abbrev pub securitycounter_at : ℕ → Control → Control
securitycounter_at at c =
    record {
      part = c.part;
      strap = c.strap;
      wp = c.wp;
      config0 = c.config0;
      config1 = c.config1;
      idlocked = c.idlocked;
      arraycounter = c.arraycounter;
      securitycounter = at;
      shown = c.shown;
      chosen = c.chosen;
      phase = c.phase;
    }

-- whose ID page is locked
abbrev pub idlocked_now : Control → Control
idlocked_now c =
    record {
      part = c.part;
      strap = c.strap;
      wp = c.wp;
      config0 = c.config0;
      config1 = c.config1;
      idlocked = true;
      arraycounter = c.arraycounter;
      securitycounter = c.securitycounter;
      shown = c.shown;
      chosen = c.chosen;
      phase = c.phase;
    }

-- with both bytes of its configuration register
abbrev pub configured : ℕ → ℕ → Control → Control
configured byte0 byte1 c =
    record {
      part = c.part;
      strap = c.strap;
      wp = c.wp;
      config0 = byte0;
      config1 = byte1;
      idlocked = c.idlocked;
      arraycounter = c.arraycounter;
      securitycounter = c.securitycounter;
      shown = c.shown;
      chosen = c.chosen;
      phase = c.phase;
    }

-- with its WP pin low or high
abbrev pub wp_at : Bool → Control → Control
wp_at level c =
    record {
      part = c.part;
      strap = c.strap;
      wp = level;
      config0 = c.config0;
      config1 = c.config1;
      idlocked = c.idlocked;
      arraycounter = c.arraycounter;
      securitycounter = c.securitycounter;
      shown = c.shown;
      chosen = c.chosen;
      phase = c.phase;
    }
