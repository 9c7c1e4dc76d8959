-- The names of a line.
use Rattle.std.proofs.Common.{◌≡◌, ℕ, ◌≤◌, List, [], ◌∷◌, length, All, IsUtf8, refl, sym, ap, subst, ◌∙◌}
use Rattle.std.proofs.lemmas.List.Elements.{All-nil, All-cons, All-head, All-tail}
use Rattle.reo_token.specs.declared.token.Token.{Token as CutToken}
use Rattle.reo_token.specs.declared.token.End.TheVariants.{Over}
use Rattle.reo_token.specs.Cut.{cut}
use Rattle.reo_grammar.specs.declared.key.Key.TheVariants as key
use Rattle.reo_grammar.specs.Token.{Token, Word, const_token, word}
use Rattle.reo_grammar.specs.Lines.{Place, LineTree, Port, Channel, Component, Put, Get, way_key, kind_key, kind_tokens, line_tokens, names_of, sentence_of}
use Rattle.reo_sentence.specs.declared.said.Name.{Name}
use Rattle.reo_sentence.specs.declared.said.Sentence as rust
use Rattle.reo_sentence.specs.declared.said.Sentence.TheVariants as sentence
use Rattle.reo_sentence.specs.Said.{Said, PortSaid, ChannelSaid, ComponentSaid, PutSaid, GetSaid, name_at, StandsIn, NamesStandIn, IsNameIn, AreNamesIn, numbered_sentence, said}
use Rattle.reo_sentence.specs.ReadLine.{Says}
use Rattle.reo_sentence.proofs.QuoteLemmas.{IsUtf8Word, utf8_words}

abbrev names_said : Said → List (List ℕ)
names_said (PortSaid way node) = node ∷ []
names_said (ChannelSaid kind a b) = a ∷ b ∷ []
names_said (ComponentSaid name) = name ∷ []
names_said (PutSaid node value) = node ∷ []
names_said (GetSaid node) = node ∷ []

said_names : (tree : LineTree) (known : List (List ℕ)) → names_said (numbered_sentence (sentence_of tree) known).1 ≡ names_of tree
said_names (Port way node) known = refl
said_names (Channel kind a b) known = refl
said_names (Component name) known = refl
said_names (Put node constant) known = refl
said_names (Get node) known = refl

second : (token : Token) (name : List ℕ) (more : List Token) → All IsUtf8Word (token ∷ Word name ∷ more) → IsUtf8 name
second token name more all = All-head IsUtf8Word (Word name) more (All-tail IsUtf8Word token (Word name ∷ more) all)

one_name : (name : List ℕ) → IsUtf8 name → All IsUtf8 (name ∷ [])
one_name name is = All-cons IsUtf8 name [] is (All-nil IsUtf8)

tree_utf8 : (tree : LineTree) → All IsUtf8Word (line_tokens tree) → All IsUtf8 (names_of tree)
tree_utf8 (Port way node) all = one_name node (second (word (way_key way)) node [] all)
tree_utf8 (Channel kind a b) all =
    All-cons IsUtf8 a (b ∷ []) (second (word (kind_key kind)) a (Word b ∷ kind_tokens kind) all)
    (one_name b (second (Word a) b (kind_tokens kind) (All-tail IsUtf8Word (word (kind_key kind)) (Word a ∷ Word b ∷ kind_tokens kind) all)))
tree_utf8 (Component name) all = one_name name (second (word key.Component) name [] all)
tree_utf8 (Put node constant) all = one_name node (second (word key.Put) node (const_token constant ∷ []) all)
tree_utf8 (Get node) all = one_name node (second (word key.Get) node [] all)

abbrev IsShort : List ℕ → Type 0
IsShort name = length name ≤ 64

is_name : (line : List ℕ) (name : Name) → All IsUtf8 (name_at line name ∷ []) → All IsShort (name_at line name ∷ []) → StandsIn (length line) name → IsNameIn line name
is_name line name utf8 short stands = record { stands = stands; utf8 = All-head IsUtf8 (name_at line name) [] utf8; short = All-head IsShort (name_at line name) [] short }

are_names : (line : List ℕ) (it : rust.Sentence) → All IsUtf8 (names_said (said line it)) → All IsShort (names_said (said line it)) → NamesStandIn (length line) it → AreNamesIn line it
are_names line (sentence.Port way node) utf8 short stands = is_name line node utf8 short stands
are_names line (sentence.Channel kind a b) utf8 short stands = (
  record { stands = stands.0; utf8 = All-head IsUtf8 (name_at line a) (name_at line b ∷ []) utf8; short = All-head IsShort (name_at line a) (name_at line b ∷ []) short },
  is_name line b (All-tail IsUtf8 (name_at line a) (name_at line b ∷ []) utf8) (All-tail IsShort (name_at line a) (name_at line b ∷ []) short) stands.1,
)
are_names line (sentence.Component name) utf8 short stands = is_name line name utf8 short stands
are_names line (sentence.Put node value) utf8 short stands = is_name line node utf8 short stands
are_names line (sentence.Get node) utf8 short stands = is_name line node utf8 short stands

pub names_in : (place : Place) (line : List ℕ) (tokens : List CutToken) (known texts : List (List ℕ)) (it : rust.Sentence) → Says place line tokens known texts it → (tokens, Over) ≡ cut 512 0 line
    → NamesStandIn (length line) it → AreNamesIn line it
names_in place line tokens known texts it says cut_so stands =
    let tree = says.is_line.tree in
    let same : names_said (said line it) ≡ names_of tree = ap (λ r. names_said r.1) (sym says.numbered) ∙ ap (λ s. names_said (numbered_sentence s known).1) says.is_line.meant ∙ said_names tree known in
    are_names line it
    (subst (All IsUtf8) (sym same) (tree_utf8 tree (subst (All IsUtf8Word) says.is_line.spelled (utf8_words line tokens cut_so))))
    (subst (All IsShort) (sym same) says.is_line.named) stands
