-- Lines with no LF in them, and what is cut at LFs.
use Rattle.std.proofs.Common.{◌≡◌, ℕ, zero, suc, ◌+◌, ◌/◌, ◌%◌, ◌≤◌, ◌==◌, nat_lt, Bool, true, false, not, ◌&&◌, if◌then◌else◌, List, [], ◌∷◌, ◌++◌, map, flat_map, codes, decimal, refl, ap, ◌∙◌, arith}
use Rattle.std.specs.List.{list_all, range_with_len}
use Rattle.std.specs.Fmt.{digit_glyph, digits_onto, digits}
use Rattle.std.proofs.lemmas.Bool.{and_parts, eqb-true, ltb-false, false≢true}
use Rattle.std.proofs.lemmas.List.Folds.{list_all-append}
use Rattle.reo_value.specs.declared.op.Way.{Way}
use Rattle.reo_value.specs.declared.op.Way.TheVariants.{Put, Get}
use Rattle.reo_net.specs.Kind.{is_fifo}
use Rattle.reo_net.specs.declared.kind.Kind.{Kind}
use Rattle.reo_net.specs.declared.kind.Kind.TheVariants.{Sync, Lossy, Drain, Fifo, Filter, Transform}
use Rattle.reo_net.specs.declared.circuit.Channel.{Channel}
use Rattle.reo_net.specs.declared.circuit.RawCircuit.{RawCircuit}
use Rattle.reo_cut.specs.declared.cut.Cut.{Cut}
use Rattle.reo_document.specs.Lines.{onto_first, parts_of}
use Rattle.reo_print.proofs.TextLemmas.{not_so}
use Rattle.reo_value.specs.Lexicon.{text_at}
use Rattle.reo_picture.specs.Picture.{quoted_byte, quoted, opening, region_line, region_of_node, node_front, node_line, port_line, arrow_style, mark_text, arrow_front, arrow_head, arrow_line, datum_text, box_front, arrow_in, arrow_out, box_line, channel_line, lines_from, picture_lines, ended, picture_text}

abbrev no_feed : ℕ → Bool
no_feed byte = not (byte == 10)

-- a line with no LF
abbrev IsClean : List ℕ → Type 0
IsClean line = list_all no_feed line ≡ true

abbrev AreClean : List (List ℕ) → Type 0
AreClean [] = Unit {0}
AreClean (line ∷ lines) = IsClean line × AreClean lines

both : (a b : Bool) → a ≡ true → b ≡ true → (a && b) ≡ true
both a b p q = ap (λ c. c && b) p ∙ q

-- lists, one behind the other
join : (a b : List ℕ) → IsClean a → IsClean b → IsClean (a ++ b)
join a b p q = list_all-append no_feed a b ∙ both (list_all no_feed a) (list_all no_feed b) p q

stack : (a b : List (List ℕ)) → AreClean a → AreClean b → AreClean (a ++ b)
stack [] b p q = q
stack (line ∷ a) b p q = (p.0, stack a b p.1 q)

from_11 : (byte : ℕ) → 11 ≤ byte → no_feed byte ≡ true
from_11 byte high = by (byte == 10) refl
  where
    by : (same : Bool) → (byte == 10) ≡ same → not same ≡ true
    by true is = absurd (omega (arith, high, eqb-true byte 10 is))
    by false is = refl

glyph : (d : ℕ) → no_feed (digit_glyph false d) ≡ true
glyph d = by (nat_lt d 10)
  where
    by : (low : Bool) → no_feed (if low then 48 + d else 87 + d) ≡ true
    by true = from_11 (48 + d) (omega arith)
    by false = from_11 (87 + d) (omega arith)

digit_first : (n : ℕ) (acc : List ℕ) → IsClean acc → IsClean (digit_glyph false (n % 10) ∷ acc)
digit_first n acc clean = both (no_feed (digit_glyph false (n % 10))) (list_all no_feed acc) (glyph (n % 10)) clean

onto : (k n : ℕ) (acc : List ℕ) → IsClean acc → IsClean (digits_onto k 10 false n acc)
onto zero n acc clean = clean
onto (suc k) n acc clean = by (n / 10 == 0) (digit_first n acc clean) (onto k (n / 10) (digit_glyph false (n % 10) ∷ acc) (digit_first n acc clean))
  where
    by : (last : Bool) → IsClean (digit_glyph false (n % 10) ∷ acc) → IsClean (digits_onto k 10 false (n / 10) (digit_glyph false (n % 10) ∷ acc))
        → IsClean (if last then digit_glyph false (n % 10) ∷ acc else digits_onto k 10 false (n / 10) (digit_glyph false (n % 10) ∷ acc))
    by true here on = here
    by false here on = on

number : (n : ℕ) → IsClean (decimal n)
unfolding digits
number n = onto 64 n [] refl

after : (n : ℕ) (rest : List ℕ) → IsClean rest → IsClean (decimal n ++ rest)
after n rest clean = join (decimal n) rest (number n) clean

inner : (text : List ℕ) → IsClean (flat_map quoted_byte text)
inner [] = refl
inner (byte ∷ text) = join (quoted_byte byte) (flat_map quoted_byte text) (by (byte == 34) (byte == 92) (byte == 38) (nat_lt byte 32) refl) (inner text)
  where
    by : (quote slash sign low : Bool) → nat_lt byte 32 ≡ low
        → IsClean (if quote then codes "\\\"" else (if slash then codes "\\\\" else (if sign then codes "&amp;" else (if low then codes " " else byte ∷ []))))
    by true slash sign low is = refl
    by false true sign low is = refl
    by false false true low is = refl
    by false false false true is = refl
    by false false false false is = let high = ltb-false byte 32 is in both (no_feed byte) true (from_11 byte (omega (arith, high))) refl

between : (text : List ℕ) → IsClean (quoted text)
between text = join (flat_map quoted_byte text) (codes "\"") (inner text) refl

-- each line
region : (r : ℕ) → IsClean (region_line r)
region r = after (r + 1) _ (after (r + 1) _ (after (r % 8 + 1) _ refl))

front : (r n : ℕ) → IsClean (node_front r n)
front r n = after (r + 1) _ (after n _ refl)

node : (c : RawCircuit) (nodes : List (List ℕ)) (cut : Cut) (n : ℕ) → IsClean (node_line c nodes cut n)
node c nodes cut n =
    let r = region_of_node c cut n in
    join (node_front r n ++ quoted (text_at nodes n)) (codes "] }") (join (node_front r n) (quoted (text_at nodes n)) (front r n) (between (text_at nodes n))) refl

port : (k : ℕ) (way : Way) (n : ℕ) → IsClean (port_line k way n)
port k Put n = after k _ (after k _ (number n))
port k Get n = after k _ (after n _ (number k))

style : (kind : Kind) → IsClean (arrow_style kind)
style Sync = refl
style Lossy = refl
style Drain = refl
style (Fifo first) = refl
style (Filter guard) = refl
style (Transform function) = refl

two_nodes : (a b : ℕ) → IsClean (arrow_front a b)
two_nodes a b = after a _ (after b _ refl)

arrow : (texts : List (List ℕ)) (k : ℕ) (x : Channel) → IsClean (arrow_line texts k x)
arrow texts k x =
    let ends = arrow_front x.a x.b in
    let mark = quoted (mark_text texts k x.kind) in
    let head = join (ends ++ arrow_style x.kind) (codes "label=") (join ends (arrow_style x.kind) (two_nodes x.a x.b) (style x.kind)) refl in
    join (arrow_head x ++ mark) (codes "]") (join (arrow_head x) mark head (between (mark_text texts k x.kind))) refl

box : (texts : List (List ℕ)) (k : ℕ) (x : Channel) → IsClean (box_line texts k x)
box texts k x =
    let datum = quoted (datum_text texts x.kind) in
    join (box_front k ++ datum ++ arrow_in k x.a) (arrow_out k x.b)
    (join (box_front k ++ datum) (arrow_in k x.a) (join (box_front k) datum (after (k + 1) _ refl) (between (datum_text texts x.kind))) (after x.a _ (number (k + 1))))
    (after (k + 1) _ (after (k + 1) _ (number x.b)))

channel : (texts : List (List ℕ)) (k : ℕ) (x : Channel) → IsClean (channel_line texts k x)
channel texts k x = by (is_fifo x.kind)
  where
    by : (fifo : Bool) → IsClean (if fifo then box_line texts k x else arrow_line texts k x)
    by true = box texts k x
    by false = arrow texts k x

mapped : (f : ℕ → List ℕ) → ((k : ℕ) → IsClean (f k)) → (ks : List ℕ) → AreClean (map f ks)
mapped f each [] = tt
mapped f each (k ∷ ks) = (each k, mapped f each ks)

from : {A : Type 0} (f : ℕ → A → List ℕ) → ((k : ℕ) (x : A) → IsClean (f k x)) → (k : ℕ) (xs : List A) → AreClean (lines_from f k xs)
from f each k [] = tt
from f each k (x ∷ xs) = (each k x, from f each (k + 1) xs)

all_clean : (c : RawCircuit) (nodes texts : List (List ℕ)) (cut : Cut) → AreClean (picture_lines c nodes texts cut)
all_clean c nodes texts cut =
    stack opening _ (refl, (refl, (refl, (refl, tt))))
    (stack (map region_line (range_with_len 0 cut.regions)) _ (mapped region_line region (range_with_len 0 cut.regions))
    (stack (map (node_line c nodes cut) (range_with_len 0 c.nodes)) _ (mapped (node_line c nodes cut) (node c nodes cut) (range_with_len 0 c.nodes)) (
      refl,
      stack (lines_from (λ number port. port_line number port.way port.node) 0 c.ports) _ (from (λ number port. port_line number port.way port.node) (λ k x. port k x.way x.node) 0 c.ports)
          (refl, stack (lines_from (channel_line texts) 0 c.channels) _ (from (channel_line texts) (channel texts) 0 c.channels) (refl, tt)),
    )))

not_true : (b : Bool) → not b ≡ true → b ≡ false
not_true true p = absurd (false≢true p)
not_true false p = refl

-- a line in front is cut off
one_line : (line rest : List ℕ) → IsClean line → parts_of (ended line ++ rest) ≡ line ∷ parts_of rest
unfolding parts_of
one_line [] rest clean = refl
one_line (byte ∷ line) rest clean =
    let parts = and_parts (no_feed byte) (list_all no_feed line) clean in
    not_so (λ l. l) (byte == 10) _ _ (not_true (byte == 10) parts.0) ∙ ap (onto_first byte) (one_line line rest parts.1)

cut_again : (lines : List (List ℕ)) → AreClean lines → parts_of (flat_map ended lines) ≡ lines ++ ([] ∷ [])
unfolding parts_of
cut_again [] clean = refl
cut_again (line ∷ lines) clean = one_line line (flat_map ended lines) clean.0 ∙ ap (λ l. line ∷ l) (cut_again lines clean.1)

pub lines_hold : (c : RawCircuit) (nodes texts : List (List ℕ)) (cut : Cut) → parts_of (picture_text c nodes texts cut) ≡ picture_lines c nodes texts cut ++ ([] ∷ [])
lines_hold c nodes texts cut = cut_again (picture_lines c nodes texts cut) (all_clean c nodes texts cut)
