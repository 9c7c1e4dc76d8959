-- What is written of a line is read again.
use Rattle.std.proofs.Common.{◌≡◌, ℕ, ◌≤◌, true, false, List, [], ◌∷◌, ◌++◌, length, map, All, Some, None, codes, IsUtf8, refl, sym, ap, subst, ◌∙◌, arith, append-nil}
use Rattle.std.proofs.lemmas.List.{length-map}
use Rattle.reo_token.specs.Cut.{cut}
use Rattle.reo_value.specs.declared.op.Way.TheVariants as way
use Rattle.reo_grammar.specs.declared.key.Key.TheVariants as key
use Rattle.reo_grammar.specs.Token.{Token, Word, const_token, word}
use Rattle.reo_grammar.specs.Functions.{function_tokens}
use Rattle.reo_grammar.specs.Lines.{KindTree, Sync, Lossy, Drain, Fifo, Full, Filter, Transform, LineTree, Port, Channel, Component, Put, Get, kind_tokens, line_tokens, names_of, section_of, is_allowed, Kind, SyncKind, LossyKind, DrainKind, FifoKind, FilterKind, TransformKind, kind_of, Sentence, PortLine, ChannelLine, ComponentLine, PutLine, GetLine, sentence_of, Place, IsLine}
use Rattle.reo_sentence.specs.Seen.{seen}
use Rattle.reo_sentence.specs.Limits.{is_wide_kind}
use Rattle.reo_sentence.specs.Numbered.{numbered_const, numbered_guard, numbered_function}
use Rattle.reo_sentence.specs.Said.{numbered_kind, numbered_sentence}
use Rattle.reo_trace.specs.ReportText.{value_text}
use Rattle.reo_print.specs.declared.guard.Level.TheVariants.{AsGuard}
use Rattle.reo_print.specs.Canonical.{guard_text, function_text}
use Rattle.reo_print.specs.Tokens.{IsWritten, over}
use Rattle.reo_print.specs.Trees.{tokens_at, IsSpellable, AreSpellable, Extends, Writes}
use Rattle.reo_print.specs.Sentences.{said_text, kind_tree, tree_of, HasSpellableKind, CanBeSaid, SentencesAreWritten, SentencesAreReadAgain}
use Rattle.reo_print.proofs.LineCutLemmas.{line_cut}
use Rattle.reo_print.proofs.TreeLemmas.{trees_mean, guard_shortest, guard_spellable}
use Rattle.reo_print.proofs.WriteLemmas.{writes_token, writes_then, writes_blank, writes_behind, writes_nothing_more}
use Rattle.reo_print.proofs.GuardWriteLemmas.{const_writes, guard_writes}
use Rattle.reo_print.proofs.FunctionWriteLemmas.{function_writes}
use Rattle.reo_print.proofs.SourceLemmas.{line_spellable, line_few}

-- two names, and what stands behind them
nodes_write : (a b : List ℕ) → IsSpellable (Word a) → IsSpellable (Word b) → Writes ((a ++ codes " ") ++ b) (Word a ∷ Word b ∷ [])
nodes_write a b can_a can_b = writes_blank a b (Word a ∷ []) (Word b ∷ []) (writes_token (Word a) can_a) (writes_token (Word b) can_b)

only_nodes : (a b : List ℕ) → IsSpellable (Word a) → IsSpellable (Word b) → Writes (((a ++ codes " ") ++ b) ++ []) (Word a ∷ Word b ∷ [])
only_nodes a b can_a can_b = writes_nothing_more ((a ++ codes " ") ++ b) (Word a ∷ Word b ∷ []) (nodes_write a b can_a can_b)

nodes_then : (a b more : List ℕ) (tokens : List Token) → IsSpellable (Word a) → IsSpellable (Word b) → Writes more tokens
    → Writes (((a ++ codes " ") ++ b) ++ (32 ∷ more)) (Word a ∷ Word b ∷ tokens)
nodes_then a b more tokens can_a can_b back = writes_then ((a ++ codes " ") ++ b) more (Word a ∷ Word b ∷ []) tokens (nodes_write a b can_a can_b) back

channel_writes : (kind : Kind) (a b : List ℕ) (known texts : List (List ℕ)) → Extends (numbered_kind kind known).0 texts → IsSpellable (Word a) → IsSpellable (Word b) → HasSpellableKind kind
    → is_wide_kind kind ≡ false
    → Writes (said_text texts (numbered_sentence (ChannelLine kind a b) known).1) (line_tokens (tree_of (ChannelLine kind a b)))
channel_writes SyncKind a b known texts extends can_a can_b can narrow = writes_behind (word key.Sync) _ _ refl (only_nodes a b can_a can_b)
channel_writes LossyKind a b known texts extends can_a can_b can narrow = writes_behind (word key.Lossy) _ _ refl (only_nodes a b can_a can_b)
channel_writes DrainKind a b known texts extends can_a can_b can narrow = writes_behind (word key.Drain) _ _ refl (only_nodes a b can_a can_b)
channel_writes (FifoKind None) a b known texts extends can_a can_b can narrow = writes_behind (word key.Fifo) _ _ refl (only_nodes a b can_a can_b)
channel_writes (FifoKind (Some constant)) a b known texts extends can_a can_b can narrow =
    writes_behind (word key.Fifo) _ _ refl
    (nodes_then a b (codes "full " ++ value_text texts (numbered_const constant known).1) (word key.Full ∷ const_token constant ∷ []) can_a can_b
    (writes_behind (word key.Full) (value_text texts (numbered_const constant known).1) (const_token constant ∷ []) refl (const_writes constant known texts extends can narrow)))
channel_writes (FilterKind guard) a b known texts extends can_a can_b can narrow =
    writes_behind (word key.Filter) _ _ refl (nodes_then a b (guard_text texts (numbered_guard guard known).1 AsGuard) (tokens_at AsGuard guard) can_a can_b (guard_writes guard known texts AsGuard extends can narrow))
channel_writes (TransformKind function) a b known texts extends can_a can_b can narrow =
    writes_behind (word key.Transform) _ _ refl (nodes_then a b (function_text texts (numbered_function function known).1) (function_tokens function) can_a can_b (function_writes function known texts extends can narrow))

pub sentence_writes : SentencesAreWritten
sentence_writes (PortLine way.Put node) known texts extends can narrow = writes_behind (word key.In) node (Word node ∷ []) refl (writes_token (Word node) can)
sentence_writes (PortLine way.Get node) known texts extends can narrow = writes_behind (word key.Out) node (Word node ∷ []) refl (writes_token (Word node) can)
sentence_writes (ChannelLine kind a b) known texts extends can narrow = channel_writes kind a b known texts extends can.0 can.1 can.2 narrow
sentence_writes (ComponentLine name) known texts extends can narrow = writes_behind (word key.Component) name (Word name ∷ []) refl (writes_token (Word name) can)
sentence_writes (PutLine node constant) known texts extends can narrow =
    writes_behind (word key.Put) _ _ refl
    (writes_blank node (value_text texts (numbered_const constant known).1) (Word node ∷ []) (const_token constant ∷ []) (writes_token (Word node) can.0) (const_writes constant known texts extends can.1 narrow))
sentence_writes (GetLine node) known texts extends can narrow = writes_behind (word key.Get) node (Word node ∷ []) refl (writes_token (Word node) can)

kind_same : (kind : Kind) → kind_of (kind_tree kind) ≡ kind
kind_same SyncKind = refl
kind_same LossyKind = refl
kind_same DrainKind = refl
kind_same (FifoKind None) = refl
kind_same (FifoKind (Some constant)) = refl
kind_same (FilterKind guard) = ap FilterKind (trees_mean guard).0
kind_same (TransformKind function) = refl

sentence_same : (sentence : Sentence) → sentence_of (tree_of sentence) ≡ sentence
sentence_same (PortLine way node) = refl
sentence_same (ChannelLine kind a b) = ap (λ k. ChannelLine k a b) (kind_same kind)
sentence_same (ComponentLine name) = refl
sentence_same (PutLine node constant) = refl
sentence_same (GetLine node) = refl

names_same : (tree : LineTree) → names_of (tree_of (sentence_of tree)) ≡ names_of tree
names_same (Port way node) = refl
names_same (Channel kind a b) = refl
names_same (Component name) = refl
names_same (Put node constant) = refl
names_same (Get node) = refl

section_same : (place : Place) (tree : LineTree) → is_allowed place (section_of (tree_of (sentence_of tree))) ≡ is_allowed place (section_of tree)
section_same place (Port way node) = refl
section_same place (Channel kind a b) = refl
section_same place (Component name) = refl
section_same place (Put node constant) = refl
section_same place (Get node) = refl

kind_fewer : (kind : KindTree) → length (kind_tokens (kind_tree (kind_of kind))) ≤ length (kind_tokens kind)
kind_fewer Sync = omega arith
kind_fewer Lossy = omega arith
kind_fewer Drain = omega arith
kind_fewer Fifo = omega arith
kind_fewer (Full constant) = omega arith
kind_fewer (Filter guard) = guard_shortest guard
kind_fewer (Transform function) = omega arith

line_fewer : (tree : LineTree) → length (line_tokens (tree_of (sentence_of tree))) ≤ length (line_tokens tree)
line_fewer (Port way node) = omega arith
line_fewer (Channel kind a b) = omega (arith, kind_fewer kind)
line_fewer (Component name) = omega arith
line_fewer (Put node constant) = omega arith
line_fewer (Get node) = omega arith

kind_spellable : (kind : KindTree) → AreSpellable (kind_tokens kind) → HasSpellableKind (kind_of kind)
kind_spellable Sync all = tt
kind_spellable Lossy all = tt
kind_spellable Drain all = tt
kind_spellable Fifo all = tt
kind_spellable (Full constant) all = all.1.0
kind_spellable (Filter guard) all = guard_spellable guard all
kind_spellable (Transform function) all = all

tree_said : (tree : LineTree) → AreSpellable (line_tokens tree) → CanBeSaid (sentence_of tree)
tree_said (Port way node) all = all.1.0
tree_said (Channel kind a b) all = (all.1.0, all.1.1.0, kind_spellable kind all.1.1.1)
tree_said (Component name) all = all.1.0
tree_said (Put node constant) all = (all.1.0, all.1.1.0)
tree_said (Get node) all = all.1.0

-- what a line of bytes says can be said again
pub line_said : (place : Place) (line : List ℕ) (sentence : Sentence) → IsUtf8 line → IsLine place (map (seen line) (cut 512 0 line).0) sentence → CanBeSaid sentence
line_said place line sentence utf8 is =
    subst CanBeSaid (sym is.meant) (tree_said is.tree (subst AreSpellable is.spelled (line_spellable line utf8)))

tree_few : (place : Place) (line : List ℕ) (sentence : Sentence) → IsLine place (map (seen line) (cut 512 0 line).0) sentence → length (line_tokens (tree_of sentence)) ≤ 512
tree_few place line sentence is =
    let all : length (line_tokens is.tree) ≤ 512 = omega (arith, ap length is.spelled, length-map (cut 512 0 line).0 (seen line), line_few line) in
    subst (λ s. length (line_tokens (tree_of s)) ≤ 512) (sym is.meant) (omega (arith, all, line_fewer is.tree))

-- the tree of a sentence stands where the sentence may
pub tree_allowed : (place : Place) (tokens : List Token) (sentence : Sentence) → IsLine place tokens sentence → is_allowed place (section_of (tree_of sentence)) ≡ true
tree_allowed place tokens sentence is = ap (λ s. is_allowed place (section_of (tree_of s))) is.meant ∙ section_same place is.tree ∙ is.allowed

-- the tree of a sentence that is a line is one that says it
tree_line : (place : Place) (tokens : List Token) (sentence : Sentence) → IsLine place tokens sentence → IsLine place (line_tokens (tree_of sentence)) sentence
tree_line place tokens sentence is = record {
  tree = tree_of sentence;
  spelled = refl;
  meant = sym (sentence_same sentence);
  allowed = tree_allowed place tokens sentence is;
  named = subst (All (λ name. length name ≤ 64)) (sym (ap (λ s. names_of (tree_of s)) is.meant ∙ names_same is.tree)) is.named;
}

-- a whole line
pub whole_line : (bytes : List ℕ) (tokens : List Token) → Writes bytes tokens → IsWritten bytes tokens
whole_line bytes tokens is =
    subst (λ bs. IsWritten bs tokens) (append-nil bytes) (subst (IsWritten (bytes ++ [])) (append-nil tokens) (is.before [] [] refl over))

pub read_again : SentencesAreReadAgain
read_again place line sentence known texts utf8 is narrow extends =
    let again = said_text texts (numbered_sentence sentence known).1 in
    let cut_so = line_cut again (line_tokens (tree_of sentence))
    (whole_line again (line_tokens (tree_of sentence)) (sentence_writes sentence known texts extends (line_said place line sentence utf8 is) narrow)) (tree_few place line sentence is) in
    (cut_so.0, subst (λ ts. IsLine place ts sentence) (sym cut_so.1) (tree_line place (map (seen line) (cut 512 0 line).0) sentence is))
