-- Texts that are numbered have numbers below the count of all texts.
use Rattle.std.proofs.Common.{◌≡◌, ℕ, ◌<◌, ◌≤◌, List, [], ◌∷◌, ◌++◌, length, All, Option, Some, None, flat_map, unwrap_or, sym, ap, subst, ◌∙◌, arith}
use Rattle.std.proofs.lemmas.List.Elements.{All-nil, All-cons, All-append, All-weaker}
use Rattle.reo_value.specs.Lexicon.{added}
use Rattle.reo_value.specs.declared.value.Value.{Value}
use Rattle.reo_value.proofs.LexiconLemmas.{place_of-added_itself, place_of-added, place_of-within, length-added}
use Rattle.reo_guard.specs.Texts.{texts_of_value, texts_of_layer, texts_of_guard, texts_of_fun}
use Rattle.reo_guard.specs.declared.guard.Cmp.{Cmp}
use Rattle.reo_guard.specs.declared.guard.Guard as numbered
use Rattle.reo_guard.specs.declared.guard.Guard.TheVariants as guard
use Rattle.reo_guard.specs.declared.guard.Guard.TheOpen.{Guard-F}
use Rattle.reo_guard.specs.declared.guard.Guard.TheFolds.{fold-roll-Guard}
use Rattle.reo_net.specs.Kind.{texts_of_kind}
use Rattle.reo_grammar.specs.Token.{Const, Integer, Phrase}
use Rattle.reo_grammar.specs.Guards.{Atom, Compare, Mod, IsInt, IsText, LenAtMost, Starts, Guard, Test, Both, Either, Fails}
use Rattle.reo_grammar.specs.Functions.{Function, Add, Sub, Mul, Neg, Len, Map}
use Rattle.reo_grammar.specs.Lines.{Kind, SyncKind, LossyKind, DrainKind, FifoKind, FilterKind, TransformKind, Sentence, PortLine, ChannelLine, ComponentLine, PutLine, GetLine}
use Rattle.reo_sentence.specs.Limits.{small_remainder, small_length}
use Rattle.reo_sentence.specs.Numbered.{number_in, numbered_const, numbered_atom, mod_guard, numbered_guard, numbered_pair, numbered_pairs, numbered_function}
use Rattle.reo_sentence.specs.Said.{Said, PortSaid, ChannelSaid, ComponentSaid, PutSaid, GetSaid, numbered_kind, numbered_sentence}

abbrev pub AreBelow : ℕ → List ℕ → Type 0
AreBelow count numbers = All (λ number. number < count) numbers

pub AreBelow-more : (n m : ℕ) (numbers : List ℕ) → n ≤ m → AreBelow n numbers → AreBelow m numbers
AreBelow-more n m numbers more below = All-weaker (λ number. number < n) (λ number. number < m) (λ number less. omega (arith, more, less)) numbers below

-- there are as many texts as before, or more, and those that are named are among them
pub record Grows (known texts : List (List ℕ)) (named : List ℕ) : Type 0 where
  pub more : length known ≤ length texts
  pub below : AreBelow (length texts) named

none_named : (texts : List (List ℕ)) → Grows texts texts []
none_named texts = record { more = omega arith; below = All-nil (λ number. number < length texts) }

both_named : (known between texts : List (List ℕ)) (first second : List ℕ) → Grows known between first → Grows between texts second → Grows known texts (first ++ second)
both_named known between texts first second one other = record {
  more = omega (arith, one.more, other.more);
  below = All-append (λ number. number < length texts) first second (AreBelow-more (length between) (length texts) first other.more one.below) other.below;
}

pub number_in-below : (texts : List (List ℕ)) (text : List ℕ) → number_in (added texts text) text < length (added texts text)
number_in-below texts text =
    let found = place_of-added_itself texts text in
    let within : found.0 < length (added texts text) = place_of-within (added texts text) text found.0 found.1 in
    let is : number_in (added texts text) text ≡ found.0 = ap (λ place. unwrap_or place 0) found.1 in
    omega (arith, within, is)

-- and so after a second text is added
pub number_in-added : (texts : List (List ℕ)) (text other : List ℕ) → number_in (added (added texts text) other) text < length (added (added texts text) other)
number_in-added texts text other =
    let found = place_of-added_itself texts text in
    let place = place_of-added (added texts text) other text found.0 found.1 in
    let within : found.0 < length (added (added texts text) other) = place_of-within (added (added texts text) other) text found.0 place in
    let is : number_in (added (added texts text) other) text ≡ found.0 = ap (λ place. unwrap_or place 0) place in
    omega (arith, within, is)

text_named : (text : List ℕ) (texts : List (List ℕ)) → Grows texts (added texts text) (number_in (added texts text) text ∷ [])
text_named text texts = record {
  more = (length-added texts text).0;
  below = All-cons (λ number. number < length (added texts text)) _ [] (number_in-below texts text) (All-nil (λ number. number < length (added texts text)));
}

const_named : (constant : Const) (texts : List (List ℕ)) → Grows texts (numbered_const constant texts).0 (texts_of_value (numbered_const constant texts).1)
const_named (Integer z) texts = none_named texts
const_named (Phrase text) texts = text_named text texts

-- what a guard of each kind names
texts-Compare : (cmp : Cmp) (constant : Value) → texts_of_guard (guard.Compare cmp constant) ≡ texts_of_value constant
texts-Compare cmp constant = ap texts_of_guard (sym (guard.rolls-Compare cmp constant)) ∙ fold-roll-Guard (List ℕ) texts_of_layer (Guard-F.Compare cmp constant)

texts-Mod : (divisor remainder : ℕ) → texts_of_guard (guard.Mod divisor remainder) ≡ []
texts-Mod divisor remainder = ap texts_of_guard (sym (guard.rolls-Mod divisor remainder)) ∙ fold-roll-Guard (List ℕ) texts_of_layer (Guard-F.Mod divisor remainder)

texts-IsInt : texts_of_guard guard.IsInt ≡ []
texts-IsInt = ap texts_of_guard (sym guard.rolls-IsInt) ∙ fold-roll-Guard (List ℕ) texts_of_layer Guard-F.IsInt

texts-IsText : texts_of_guard guard.IsText ≡ []
texts-IsText = ap texts_of_guard (sym guard.rolls-IsText) ∙ fold-roll-Guard (List ℕ) texts_of_layer Guard-F.IsText

texts-LenAtMost : (most : ℕ) → texts_of_guard (guard.LenAtMost most) ≡ []
texts-LenAtMost most = ap texts_of_guard (sym (guard.rolls-LenAtMost most)) ∙ fold-roll-Guard (List ℕ) texts_of_layer (Guard-F.LenAtMost most)

texts-Starts : (front : ℕ) → texts_of_guard (guard.Starts front) ≡ front ∷ []
texts-Starts front = ap texts_of_guard (sym (guard.rolls-Starts front)) ∙ fold-roll-Guard (List ℕ) texts_of_layer (Guard-F.Starts front)

texts-And : (left right : numbered.Guard) → texts_of_guard (guard.And left right) ≡ texts_of_guard left ++ texts_of_guard right
texts-And left right = ap texts_of_guard (sym (guard.rolls-And left right)) ∙ fold-roll-Guard (List ℕ) texts_of_layer (Guard-F.And left right)

texts-Or : (left right : numbered.Guard) → texts_of_guard (guard.Or left right) ≡ texts_of_guard left ++ texts_of_guard right
texts-Or left right = ap texts_of_guard (sym (guard.rolls-Or left right)) ∙ fold-roll-Guard (List ℕ) texts_of_layer (Guard-F.Or left right)

texts-Not : (inner : numbered.Guard) → texts_of_guard (guard.Not inner) ≡ texts_of_guard inner
texts-Not inner = ap texts_of_guard (sym (guard.rolls-Not inner)) ∙ fold-roll-Guard (List ℕ) texts_of_layer (Guard-F.Not inner)

same_named : (known texts : List (List ℕ)) (one other : List ℕ) → one ≡ other → Grows known texts other → Grows known texts one
same_named known texts one other same grows = subst (Grows known texts) (sym same) grows

mod_named : (parts : Option (ℕ × ℕ)) (texts : List (List ℕ)) → Grows texts texts (texts_of_guard (mod_guard parts))
mod_named None texts = same_named texts texts _ [] (texts-Mod 0 0) (none_named texts)
mod_named (Some parts) texts = same_named texts texts _ [] (texts-Mod parts.0 parts.1) (none_named texts)

atom_named : (atom : Atom) (texts : List (List ℕ)) → Grows texts (numbered_atom atom texts).0 (texts_of_guard (numbered_atom atom texts).1)
atom_named (Compare cmp constant) texts = same_named texts _ _ _ (texts-Compare cmp (numbered_const constant texts).1) (const_named constant texts)
atom_named (Mod divisor remainder) texts = mod_named (small_remainder divisor remainder) texts
atom_named IsInt texts = same_named texts texts _ [] texts-IsInt (none_named texts)
atom_named IsText texts = same_named texts texts _ [] texts-IsText (none_named texts)
atom_named (LenAtMost most) texts = same_named texts texts _ [] (texts-LenAtMost (unwrap_or (small_length most) 0)) (none_named texts)
atom_named (Starts front) texts = same_named texts _ _ _ (texts-Starts (number_in (added texts front) front)) (text_named front texts)

guard_named : (g : Guard) (texts : List (List ℕ)) → Grows texts (numbered_guard g texts).0 (texts_of_guard (numbered_guard g texts).1)
unfolding numbered_guard
guard_named (Test atom) texts = atom_named atom texts
guard_named (Both left right) texts =
    same_named texts _ _ _ (texts-And (numbered_guard left texts).1 (numbered_guard right (numbered_guard left texts).0).1)
    (both_named texts (numbered_guard left texts).0 _ _ _ (guard_named left texts) (guard_named right (numbered_guard left texts).0))
guard_named (Either left right) texts =
    same_named texts _ _ _ (texts-Or (numbered_guard left texts).1 (numbered_guard right (numbered_guard left texts).0).1)
    (both_named texts (numbered_guard left texts).0 _ _ _ (guard_named left texts) (guard_named right (numbered_guard left texts).0))
guard_named (Fails inner) texts = same_named texts _ _ _ (texts-Not (numbered_guard inner texts).1) (guard_named inner texts)

pair_named : (pair : Const × Const) (texts : List (List ℕ)) → Grows texts (numbered_pair pair texts).0 (texts_of_value (numbered_pair pair texts).1.0 ++ texts_of_value (numbered_pair pair texts).1.1)
pair_named pair texts = both_named texts (numbered_const pair.0 texts).0 _ _ _ (const_named pair.0 texts) (const_named pair.1 (numbered_const pair.0 texts).0)

pairs_named : (pairs : List (Const × Const)) (texts : List (List ℕ))
    → Grows texts (numbered_pairs pairs texts).0 (flat_map (λ (pair : Value × Value). texts_of_value pair.0 ++ texts_of_value pair.1) (numbered_pairs pairs texts).1)
unfolding numbered_pairs
pairs_named [] texts = none_named texts
pairs_named (pair ∷ pairs) texts = both_named texts (numbered_pair pair texts).0 _ _ _ (pair_named pair texts) (pairs_named pairs (numbered_pair pair texts).0)

function_named : (function : Function) (texts : List (List ℕ)) → Grows texts (numbered_function function texts).0 (texts_of_fun (numbered_function function texts).1)
function_named (Add more) texts = none_named texts
function_named (Sub less) texts = none_named texts
function_named (Mul factor) texts = none_named texts
function_named Neg texts = none_named texts
function_named Len texts = none_named texts
function_named (Map pairs) texts = pairs_named pairs texts

kind_named : (kind : Kind) (texts : List (List ℕ)) → Grows texts (numbered_kind kind texts).0 (texts_of_kind (numbered_kind kind texts).1)
kind_named SyncKind texts = none_named texts
kind_named LossyKind texts = none_named texts
kind_named DrainKind texts = none_named texts
kind_named (FifoKind None) texts = none_named texts
kind_named (FifoKind (Some constant)) texts = const_named constant texts
kind_named (FilterKind guard) texts = guard_named guard texts
kind_named (TransformKind function) texts = function_named function texts

-- the texts that a line names
abbrev pub texts_said : Said → List ℕ
texts_said (PortSaid way node) = []
texts_said (ChannelSaid kind a b) = texts_of_kind kind
texts_said (ComponentSaid name) = []
texts_said (PutSaid node value) = texts_of_value value
texts_said (GetSaid node) = []

pub sentence_named : (sentence : Sentence) (texts : List (List ℕ)) → Grows texts (numbered_sentence sentence texts).0 (texts_said (numbered_sentence sentence texts).1)
sentence_named (PortLine way node) texts = none_named texts
sentence_named (ChannelLine kind a b) texts = kind_named kind texts
sentence_named (ComponentLine name) texts = none_named texts
sentence_named (PutLine node constant) texts = const_named constant texts
sentence_named (GetLine node) texts = none_named texts
