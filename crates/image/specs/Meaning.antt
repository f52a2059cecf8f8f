-- The network that a circuit's parts mean at a setting: the leak of the version, and a branch for each element in order. Assumes nothing.
use Rattle.std.specs.Prelude.{cond, ℕ, eqb}
use Rattle.network.specs.Network.{Law, conductance, curve, Branch, Network}
use Rattle.network.specs.Kind.{has_curve, store_of}
use Rattle.image.specs.Parts.{version1, element_of, curve_of, slopes_of, breakpoints_of}
use Rattle.image.specs.Conductance.{conductance_at}
use Rattle.image.specs.Setting.{Setting}
use Rattle.image.specs.declared.parts.Parts.{Parts}

-- the leak of every free node, in nanosiemens: 1 in version 1, and 10 since
unfoldable pub leak_of : (version : ℕ) → ℕ
leak_of version = cond (eqb version version1) 1 10

-- a diode has the curve that it names, any other element its conductance
abbrev pub law_at : Parts → Setting → ℕ → Law
law_at parts setting j =
    let c = curve_of parts (element_of parts j).curve in
    cond (has_curve (element_of parts j).kind) (curve (slopes_of c) (breakpoints_of c)) (conductance (conductance_at parts setting j))

unfoldable pub branch_at : Parts → Setting → ℕ → Branch
branch_at parts setting j = record {
  p = (element_of parts j).p;
  q = (element_of parts j).q;
  law = law_at parts setting j;
  store = store_of (element_of parts j).kind;
}

abbrev pub network_at : Parts → Setting → Network
network_at parts setting = record {
  leak = leak_of parts.version;
  nodes = parts.nodes;
  driven = parts.driven;
  count = parts.element_count;
  branch = branch_at parts setting;
}
