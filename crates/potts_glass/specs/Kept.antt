-- The Potts glass of the program as that of the definitions.
use Rattle.std.specs.Prelude.{◌≡◌, ◌*◌, length}
use Rattle.spin_model.specs.Lattice.{volume}
use Rattle.spin_model.specs.Steps.{table}
use Rattle.potts_glass.specs.PackedColours.{colours_of}
use Rattle.potts_glass.specs.PottsStates.{PottsView}
use Rattle.potts_glass.specs.declared.potts.Potts.TheInside.{Inside}

abbrev pub view_of : Inside → PottsView
view_of potts = record {
  couplings = potts.couplings;
  states = table (colours_of potts.couplings.size potts.sites) 64;
  words = potts.wheels;
}

-- the lattice of the couplings, two words for each of its sites, and a generator for each class and plane
pub record KeepsPotts (potts : Inside) : Type 0 where
  pub size : potts.lattice ≡ potts.couplings.size
  pub sites : length potts.sites ≡ volume potts.couplings.size
  pub wheels : length potts.wheels ≡ 2 * potts.couplings.size
