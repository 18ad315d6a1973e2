-- The parts, their figures and abilities, and what makes these sound (paper, the table of "What the bench plays"; sheets, Table 11-1;
-- request E7).
use Rattle.std.specs.Prelude.{ℕ, ◌+◌, ◌*◌, ◌/◌, ◌<◌, ◌≤◌, ◌^◌, Bool, true, false, cond, ◌||◌, [], ◌∷◌, ◌≡◌, eqb, length}
use Rattle.base.specs.Every.{AllBytes}
use Rattle.parts.specs.declared.part.Geometry.{Geometry}

-- | part | array | page | zone | security register | read-only half | ID page | straps |, the ID bytes, and the abilities: it has registers, which
-- 1011 bytes are for, and it identifies itself, which F8h and F9h are for
abbrev pub geometry_24csm01 : Geometry
geometry_24csm01 =
    record {
      array = 131072;
      page = 256;
      zone = 16384;
      security = 512;
      readonly = 256;
      idpage = 256;
      straps = 4;
      id = 0x00 ∷ 0xD0 ∷ 0xD0 ∷ [];
      registers = true;
      identifies = true;
    }

abbrev pub geometry_24cs32 : Geometry
geometry_24cs32 =
    record {
      array = 4096;
      page = 32;
      zone = 512;
      security = 64;
      readonly = 32;
      idpage = 32;
      straps = 8;
      id = 0x00 ∷ 0xD0 ∷ 0xA8 ∷ [];
      registers = true;
      identifies = true;
    }

-- the array, page and address byte of the 24CSM01, no register and no ID: its zone and its ID bytes are never read (request E7)
abbrev pub geometry_at24cm01 : Geometry
geometry_at24cm01 =
    record {
      array = 131072;
      page = 256;
      zone = 16384;
      security = 0;
      readonly = 0;
      idpage = 0;
      straps = 4;
      id = 0x00 ∷ 0x00 ∷ 0x00 ∷ [];
      registers = false;
      identifies = false;
    }

-- 24CSM01 is part 1, 24CS32 is part 2, AT24CM01 is part 3
abbrev pub is_part : ℕ → Bool
is_part part = eqb part 1 || (eqb part 2 || eqb part 3)

-- a number that is no part has the 24CS32's figures
unfoldable pub geometry_of : ℕ → Geometry
geometry_of part = cond (eqb part 1) geometry_24csm01 (cond (eqb part 3) geometry_at24cm01 geometry_24cs32)

-- what the laws of pages, zones, counters and codes stand on
pub record Sound (g : Geometry) : Type 0 where
  -- a page is at least a byte and at most 256, and addresses of 32 bits are whole pages
  pub page_some : 0 < g.page
  pub page_most : g.page ≤ 256
  pub page_fits : 2 ^ 32 / g.page * g.page ≡ 2 ^ 32
  -- a zone is whole pages, and the array is eight zones
  pub zone_whole : g.zone / g.page * g.page ≡ g.zone
  pub zone_some : 0 < g.zone
  pub zone_eight : 8 * g.zone ≡ g.array
  -- both regions are whole pages, and so is the read-only half
  pub array_whole : g.array / g.page * g.page ≡ g.array
  pub security_whole : g.security / g.page * g.page ≡ g.security
  pub readonly_whole : g.readonly / g.page * g.page ≡ g.readonly
  -- the array is whole rows of an Intel HEX file (request E1)
  pub array_rows : g.array / 16 * 16 ≡ g.array
  -- sums of addresses of the array fit 32 bits
  pub array_most : g.array ≤ 2 ^ 24
  -- a part with registers has a security register, and one without has none; it is its read-only half and its ID page
  pub security_some : cond g.registers 1 0 ≤ g.security
  pub security_none : cond g.registers 0 g.security ≡ 0
  pub security_halves : g.readonly + g.idpage ≡ g.security
  pub security_most : g.security ≤ 2 ^ 16
  -- each strap has a code of its own, and there are eight codes (`Address`)
  pub straps_some : 0 < g.straps
  pub straps_most : g.straps ≤ 8
  -- the three ID bytes
  pub id_three : length g.id ≡ 3
  pub id_bytes : AllBytes g.id
