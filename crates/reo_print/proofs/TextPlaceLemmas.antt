-- Where texts stand that are numbered.
use Rattle.std.proofs.Common.{◌≡◌, ℕ, Bool, true, false, List, [], ◌∷◌, ◌++◌, Some, slice_get, unwrap_or, refl, sym, ap, subst, ◌∙◌, append_assoc, append-nil}
use Rattle.std.specs.Prelude.{is_some, if◌then◌else◌}
use Rattle.std.proofs.lemmas.Option.{get_or_from_slice_get}
use Rattle.reo_value.specs.Lexicon.{place_of, added, text_at}
use Rattle.reo_value.proofs.LexiconLemmas.{place_of-added_itself, slice_get-place_of, slice_get-append}
use Rattle.reo_grammar.specs.Token.{Const, Integer, Phrase}
use Rattle.reo_grammar.specs.Guards.{Atom, Compare, Mod, IsInt, IsText, LenAtMost, Starts, Guard, Test, Both, Either, Fails}
use Rattle.reo_grammar.specs.Functions.{Function, Add, Sub, Mul, Neg, Len, Map}
use Rattle.reo_grammar.specs.Lines.{Kind, SyncKind, LossyKind, DrainKind, FifoKind, FilterKind, TransformKind, Sentence, PortLine, ChannelLine, ComponentLine, PutLine, GetLine}
use Rattle.reo_sentence.specs.Numbered.{number_in, numbered_const, numbered_atom, numbered_guard, numbered_pair, numbered_pairs, numbered_function}
use Rattle.reo_sentence.specs.Said.{numbered_kind, numbered_sentence}
use Rattle.std.specs.Prelude.{None}
use Rattle.reo_print.specs.Trees.{Extends}

pub extends_same : (texts : List (List ℕ)) → Extends texts texts
extends_same texts = record { more = []; is = sym (append-nil texts) }

pub extends_more : (front more : List (List ℕ)) → Extends front (front ++ more)
extends_more front more = record { more = more; is = refl }

pub extends_through : (front middle whole : List (List ℕ)) → Extends front middle → Extends middle whole → Extends front whole
extends_through front middle whole first second = record {
  more = first.more ++ second.more;
  is = second.is ∙ ap (λ ts. ts ++ second.more) first.is ∙ append_assoc front first.more second.more;
}

pub extends_added : (known : List (List ℕ)) (text : List ℕ) → Extends known (added known text)
extends_added known text = by (is_some (place_of known text))
  where
    by : (found : Bool) → Extends known (if found then known else known ++ text ∷ [])
    by true = extends_same known
    by false = extends_more known (text ∷ [])

-- a text stands where it was found, also as texts are added
pub text_there : (front whole : List (List ℕ)) (text : List ℕ) (n : ℕ) → Extends front whole → slice_get front n ≡ Some text → text_at whole n ≡ text
text_there front whole text n extends is =
    get_or_from_slice_get whole n text [] (subst (λ ts. slice_get ts n ≡ Some text) (sym extends.is) (slice_get-append front extends.more n text is))

pub text_numbered : (known whole : List (List ℕ)) (text : List ℕ) → Extends (added known text) whole → text_at whole (number_in (added known text) text) ≡ text
text_numbered known whole text extends =
    let found = place_of-added_itself known text in
    ap (λ place. text_at whole (unwrap_or place 0)) found.1
    ∙ text_there (added known text) whole text found.0 extends (slice_get-place_of (added known text) text found.0 found.1)

pub const_extends : (constant : Const) (known : List (List ℕ)) → Extends known (numbered_const constant known).0
const_extends (Integer z) known = extends_same known
const_extends (Phrase text) known = extends_added known text

atom_extends : (atom : Atom) (known : List (List ℕ)) → Extends known (numbered_atom atom known).0
atom_extends (Compare cmp constant) known = const_extends constant known
atom_extends (Mod divisor remainder) known = extends_same known
atom_extends IsInt known = extends_same known
atom_extends IsText known = extends_same known
atom_extends (LenAtMost most) known = extends_same known
atom_extends (Starts front) known = extends_added known front

pub guard_extends : (guard : Guard) (known : List (List ℕ)) → Extends known (numbered_guard guard known).0
unfolding numbered_guard
guard_extends (Test atom) known = atom_extends atom known
guard_extends (Both left right) known =
    extends_through known (numbered_guard left known).0 (numbered_guard right (numbered_guard left known).0).0 (guard_extends left known) (guard_extends right (numbered_guard left known).0)
guard_extends (Either left right) known =
    extends_through known (numbered_guard left known).0 (numbered_guard right (numbered_guard left known).0).0 (guard_extends left known) (guard_extends right (numbered_guard left known).0)
guard_extends (Fails inner) known = guard_extends inner known

pub pair_extends : (pair : Const × Const) (known : List (List ℕ)) → Extends known (numbered_pair pair known).0
pair_extends pair known =
    extends_through known (numbered_const pair.0 known).0 (numbered_const pair.1 (numbered_const pair.0 known).0).0 (const_extends pair.0 known) (const_extends pair.1 (numbered_const pair.0 known).0)

pub pairs_extend : (pairs : List (Const × Const)) (known : List (List ℕ)) → Extends known (numbered_pairs pairs known).0
unfolding numbered_pairs
pairs_extend [] known = extends_same known
pairs_extend (pair ∷ pairs) known =
    extends_through known (numbered_pair pair known).0 (numbered_pairs pairs (numbered_pair pair known).0).0 (pair_extends pair known) (pairs_extend pairs (numbered_pair pair known).0)

function_extends : (function : Function) (known : List (List ℕ)) → Extends known (numbered_function function known).0
function_extends (Add more) known = extends_same known
function_extends (Sub less) known = extends_same known
function_extends (Mul factor) known = extends_same known
function_extends Neg known = extends_same known
function_extends Len known = extends_same known
function_extends (Map pairs) known = pairs_extend pairs known

kind_extends : (kind : Kind) (known : List (List ℕ)) → Extends known (numbered_kind kind known).0
kind_extends SyncKind known = extends_same known
kind_extends LossyKind known = extends_same known
kind_extends DrainKind known = extends_same known
kind_extends (FifoKind None) known = extends_same known
kind_extends (FifoKind (Some constant)) known = const_extends constant known
kind_extends (FilterKind guard) known = guard_extends guard known
kind_extends (TransformKind function) known = function_extends function known

pub sentence_extends : (sentence : Sentence) (known : List (List ℕ)) → Extends known (numbered_sentence sentence known).0
sentence_extends (PortLine way node) known = extends_same known
sentence_extends (ChannelLine kind a b) known = kind_extends kind known
sentence_extends (ComponentLine name) known = extends_same known
sentence_extends (PutLine node constant) known = const_extends constant known
sentence_extends (GetLine node) known = extends_same known
