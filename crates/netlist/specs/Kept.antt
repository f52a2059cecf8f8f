-- What the readers keep of a number that is too large for its field of the image: the field's greatest number, which no rule lets pass. No outcome
-- rests on this: what a text says, and its answer, are of numbers of any size. Assumes nothing.
use Rattle.std.specs.Prelude.{◌≡◌, List, map, ℕ, suc, min, ℤ, pos, negsuc, neg_ℤ}
use Rattle.image.specs.declared.parts.Curve.{Curve}
use Rattle.image.specs.declared.parts.Element.{Element}
use Rattle.image.specs.declared.parts.Parts.{Parts}
use Rattle.netlist.specs.Draft.{reparted}
use Rattle.netlist.specs.declared.draft.Draft.{Draft}
use Rattle.netlist.specs.declared.said.Line.{Line}
use Rattle.netlist.specs.declared.said.Line.TheVariants as line

-- ---- numbers

-- the greatest of a field of one byte, of one of four, and the greatest size in one of four with a sign
abbrev pub most_byte : ℕ
most_byte = 255

abbrev pub most_word : ℕ
most_word = 4294967295

abbrev pub most_size : ℕ
most_size = 2147483647

-- a number as such a field keeps it
abbrev pub byte : ℕ → ℕ
byte n = min n most_byte

abbrev pub word : ℕ → ℕ
word n = min n most_word

abbrev pub size : ℕ → ℕ
size n = min n most_size

-- a breakpoint, by its size
abbrev pub kept_breakpoint : ℤ → ℤ
kept_breakpoint (pos n) = pos (size n)
kept_breakpoint (negsuc n) = neg_ℤ (pos (size (suc n)))

-- ---- parts

-- an element; its kind and its value are never too large
abbrev pub kept_element : Element → Element
kept_element e = record { kind = e.kind; p = byte e.p; q = byte e.q; curve = byte e.curve; value = e.value }

-- a curve by its count alone, and whole
unfoldable pub kept_count : Curve → Curve
kept_count c = record { count = byte c.count; slopes = c.slopes; breakpoints = c.breakpoints }

unfoldable pub kept_curve : Curve → Curve
kept_curve c = record { count = byte c.count; slopes = map word c.slopes; breakpoints = map kept_breakpoint c.breakpoints }

-- parts, with these elements and curves for theirs
abbrev pub kept_with : Parts → List Element → List Curve → Parts
kept_with parts elements curves = record {
  version = parts.version;
  nodes = byte parts.nodes;
  driven = byte parts.driven;
  output = byte parts.output;
  rate = word parts.rate;
  element_count = byte parts.element_count;
  elements = elements;
  curve_count = byte parts.curve_count;
  curves = curves;
}

-- parts by all but their elements and curves, and whole
unfoldable pub kept_header : Parts → Parts
kept_header parts = kept_with parts parts.elements parts.curves

unfoldable pub kept_parts : Parts → Parts
kept_parts parts = kept_with parts (map kept_element parts.elements) (map kept_curve parts.curves)

-- drafts likewise
abbrev pub header_kept : Draft → Draft
header_kept d = reparted d (kept_header d.parts)

abbrev pub kept_draft : Draft → Draft
kept_draft d = reparted d (kept_parts d.parts)

-- ---- lines

-- what a line says
abbrev pub kept_line : Line → Line
kept_line line.Broken = line.Broken
kept_line line.Empty = line.Empty
kept_line line.Outside = line.Outside
kept_line (line.Part e) = line.Part (kept_element e)
kept_line (line.Setting field n) = line.Setting field (word n)
kept_line (line.Curve c) = line.Curve (kept_curve c)

-- ---- right answers

-- something that is meant, as it is kept
pub record KeptOf (Meant : Line → Type 0) (x : Line) : Type 0 where
  pub whole : Line
  pub meant : Meant whole
  pub kept : x ≡ kept_line whole

-- an answer for a line is right: it is what is said, as that is kept, and Broken only if nothing can be
abbrev pub Right : (Line → Type 0) → Line → Type 0
Right Meant line.Broken = (y : Line) → Meant y → ⊥
Right Meant line.Empty = KeptOf Meant line.Empty
Right Meant line.Outside = KeptOf Meant line.Outside
Right Meant (line.Part e) = KeptOf Meant (line.Part e)
Right Meant (line.Setting field n) = KeptOf Meant (line.Setting field n)
Right Meant (line.Curve c) = KeptOf Meant (line.Curve c)
