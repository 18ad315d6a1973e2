-- What is protected at a Stop (paper, "Protection" and "Security register"; sheets 6.6).
use Rattle.std.specs.Prelude.{Bool, cond}
use Rattle.parts.specs.Part.{geometry_of}
use Rattle.regions.specs.Zone.{zone_of}
use Rattle.control.specs.declared.Control.{Control}
use Rattle.control.specs.Bits.{ewpm, swp}

-- EWPM 1: the SWP bit of the zone that the counter's page lies in. EWPM 0: the SWP bits are ignored and WP high protects the
-- whole array
abbrev pub is_protected : Control → Bool
is_protected c = cond (ewpm c) (swp c (zone_of (geometry_of c.part) c.arraycounter)) c.wp

-- the ID page, by its lock alone: WP does not act here
abbrev pub id_page_protected : Control → Bool
id_page_protected c = c.idlocked
