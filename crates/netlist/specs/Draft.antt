-- A circuit's parts as far as the lines have told them, in numbers of any size: a line that says a number which no field of the image holds is told as any
-- other is, and the rules refuse the parts. Assumes nothing.
use Rattle.std.specs.Prelude.{Bool, true, false, ◌&&◌, Option, Some, None, ℕ, suc, max, set}
use Rattle.image.specs.Parts.{version2, no_parts, in_version}
use Rattle.image.specs.declared.parts.Curve.{Curve}
use Rattle.image.specs.declared.parts.Element.{Element}
use Rattle.image.specs.declared.parts.Parts.{Parts}
use Rattle.netlist.specs.declared.draft.Draft.{Draft}
use Rattle.netlist.specs.declared.draft.Fault.{Fault}
use Rattle.netlist.specs.declared.draft.Fault.TheVariants.{Grammar, Value}
use Rattle.netlist.specs.declared.said.Line.{Line}
use Rattle.netlist.specs.declared.said.Line.TheVariants.{Broken, Empty, Outside, Part, Setting}
use Rattle.netlist.specs.declared.said.Line.TheVariants as line
use Rattle.netlist.specs.declared.said.Field.{Field}
use Rattle.netlist.specs.declared.said.Field.TheVariants.{Drives, Output, Rate}

-- ---- parts, with one thing more; what is past the room of the parts is only counted

-- the node count is the highest node named
unfoldable pub with_element : Parts → Element → Parts
with_element parts e = record {
  version = parts.version;
  nodes = max parts.nodes (max e.p e.q);
  driven = parts.driven;
  output = parts.output;
  rate = parts.rate;
  element_count = suc parts.element_count;
  elements = set parts.elements parts.element_count e;
  curve_count = parts.curve_count;
  curves = parts.curves;
}

unfoldable pub with_curve : Parts → Curve → Parts
with_curve parts c = record {
  version = parts.version;
  nodes = parts.nodes;
  driven = parts.driven;
  output = parts.output;
  rate = parts.rate;
  element_count = parts.element_count;
  elements = parts.elements;
  curve_count = suc parts.curve_count;
  curves = set parts.curves parts.curve_count c;
}

-- other settings, and the node count that goes with them
abbrev pub resettled : Parts → (nodes driven output rate : ℕ) → Parts
resettled parts nodes driven output rate = record {
  version = parts.version;
  nodes = nodes;
  driven = driven;
  output = output;
  rate = rate;
  element_count = parts.element_count;
  elements = parts.elements;
  curve_count = parts.curve_count;
  curves = parts.curves;
}

-- the output is a node named too; drives are counted, and name none
unfoldable pub with_setting : Parts → Field → ℕ → Parts
with_setting parts Drives n = resettled parts parts.nodes n parts.output parts.rate
with_setting parts Output n = resettled parts (max parts.nodes n) parts.driven n parts.rate
with_setting parts Rate n = resettled parts parts.nodes parts.driven parts.output n

-- ---- drafts: parts, and which settings have been said

-- before the first line: nothing, in version 2
unfoldable pub blank_draft : Draft
blank_draft = record {
  parts = in_version version2 no_parts;
  drives = false;
  output = false;
  rate = false;
}

abbrev pub said : Draft → Field → Bool
said d Drives = d.drives
said d Output = d.output
said d Rate = d.rate

-- all three, each of which must be said once
abbrev pub complete : Draft → Bool
complete d = d.drives && d.output && d.rate

-- what is wrong with a line after the lines so far, if anything is: it is outside the grammar, also by saying a setting again; or a stage of its value is
-- outside the limits
abbrev pub again : Bool → Option Fault
again true = Some Grammar
again false = None

unfoldable pub fault_of : Draft → Line → Option Fault
fault_of d Broken = Some Grammar
fault_of d Empty = None
fault_of d Outside = Some Value
fault_of d (Part e) = None
fault_of d (Setting field n) = again (said d field)
fault_of d (line.Curve c) = None

-- a draft with other parts, and one in which a setting has been said
abbrev pub reparted : Draft → Parts → Draft
reparted d parts = record { parts = parts; drives = d.drives; output = d.output; rate = d.rate }

abbrev pub noted : Draft → Field → Draft
noted d Drives = record { parts = d.parts; drives = true; output = d.output; rate = d.rate }
noted d Output = record { parts = d.parts; drives = d.drives; output = true; rate = d.rate }
noted d Rate = record { parts = d.parts; drives = d.drives; output = d.output; rate = true }

-- the draft with a line more
unfoldable pub with_line : Draft → Line → Draft
with_line d Broken = d
with_line d Empty = d
with_line d Outside = d
with_line d (Part e) = reparted d (with_element d.parts e)
with_line d (Setting field n) = noted (reparted d (with_setting d.parts field n)) field
with_line d (line.Curve c) = reparted d (with_curve d.parts c)
