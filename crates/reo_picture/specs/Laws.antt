-- What holds of each picture: no text ends its quotes or its line, and each node stands in the cluster of its region.
use Rattle.std.specs.Prelude.{◌≡◌, ℕ, ◌<◌, ◌==◌, if◌then◌else◌, Bool, true, false, List, [], ◌∷◌, ◌++◌, Option, Some, None}
use Rattle.reo_net.specs.declared.circuit.RawCircuit.{RawCircuit}
use Rattle.reo_net.specs.Regions.{OfNode}
use Rattle.reo_cut.specs.declared.cut.Cut.{Cut}
use Rattle.reo_cut.specs.Cut.{IsCut, IsOfRegion}
use Rattle.reo_document.specs.Lines.{parts_of}
use Rattle.reo_picture.specs.Picture.{quoted, region_of_node, picture_lines, picture_text}

-- what Graphviz reads behind the quote that ends a quoted text; a backslash takes the byte behind it
abbrev pub behind_inner : Bool → List ℕ → Option (List ℕ)
behind_inner taken [] = None
behind_inner true (byte ∷ bytes) = behind_inner false bytes
behind_inner false (byte ∷ bytes) = if byte == 34 then Some bytes else behind_inner (byte == 92) bytes

abbrev pub behind_quoted : List ℕ → Option (List ℕ)
behind_quoted [] = None
behind_quoted (byte ∷ bytes) = if byte == 34 then behind_inner false bytes else None

-- whatever the text, its quotes end where they are closed
abbrev pub QuotesHold : Type 0
QuotesHold = (text rest : List ℕ) → behind_quoted (quoted text ++ rest) ≡ Some rest

-- cut at its LFs, a picture is its lines, and nothing stands behind the last LF
abbrev pub LinesHold : Type 0
LinesHold = (c : RawCircuit) (nodes texts : List (List ℕ)) (cut : Cut) → parts_of (picture_text c nodes texts cut) ≡ picture_lines c nodes texts cut ++ ([] ∷ [])

-- the cluster of a node is that of its region
abbrev pub NodesAreAtHome : Type 0
NodesAreAtHome = (c : RawCircuit) (cut : Cut) (is_cut : IsCut c cut) (node : ℕ) → node < c.nodes → IsOfRegion c is_cut.roots (OfNode node) (region_of_node c cut node)
