-- Lines as they are written, with the names in place of their numbers.
use Rattle.std.specs.Prelude.{◌≡◌, ℕ, false, List, ◌++◌, map, Some, None, codes, IsUtf8}
use Rattle.reo_token.specs.declared.token.End.TheVariants.{Over}
use Rattle.reo_token.specs.Cut.{cut}
use Rattle.reo_grammar.specs.Token.{Word, const_token}
use Rattle.reo_grammar.specs.Functions.{function_tokens}
use Rattle.reo_grammar.specs.Lines.{KindTree, Sync, Lossy, Drain, Fifo, Full, Filter, Transform, LineTree, Port, Channel, Component, Put, Get, line_tokens, Kind, SyncKind, LossyKind, DrainKind, FifoKind, FilterKind, TransformKind, Sentence, PortLine, ChannelLine, ComponentLine, PutLine, GetLine, Place, IsLine}
use Rattle.reo_sentence.specs.Seen.{seen}
use Rattle.reo_sentence.specs.Limits.{is_wide}
use Rattle.reo_sentence.specs.Said.{Said, PortSaid, ChannelSaid, ComponentSaid, PutSaid, GetSaid, numbered_sentence}
use Rattle.reo_trace.specs.ReportText.{value_text}
use Rattle.reo_print.specs.Canonical.{way_word, kind_word, kind_rest}
use Rattle.reo_print.specs.Trees.{trees_of, IsSpellable, AreSpellable, HasSpellableAtoms, Extends, Writes}

-- a line by the names of its nodes, without the LF at its end
abbrev pub said_text : List (List ℕ) → Said → List ℕ
said_text texts (PortSaid way node) = way_word way ++ node
said_text texts (ChannelSaid kind a b) = kind_word kind ++ a ++ codes " " ++ b ++ kind_rest texts kind
said_text texts (ComponentSaid name) = codes "component " ++ name
said_text texts (PutSaid node value) = codes "put " ++ node ++ codes " " ++ value_text texts value
said_text texts (GetSaid node) = codes "get " ++ node

-- the tree with as few brackets as the line needs
abbrev pub kind_tree : Kind → KindTree
kind_tree SyncKind = Sync
kind_tree LossyKind = Lossy
kind_tree DrainKind = Drain
kind_tree (FifoKind None) = Fifo
kind_tree (FifoKind (Some constant)) = Full constant
kind_tree (FilterKind guard) = Filter (trees_of guard).guard
kind_tree (TransformKind function) = Transform function

abbrev pub tree_of : Sentence → LineTree
tree_of (PortLine way node) = Port way node
tree_of (ChannelLine kind a b) = Channel (kind_tree kind) a b
tree_of (ComponentLine name) = Component name
tree_of (PutLine node constant) = Put node constant
tree_of (GetLine node) = Get node

-- names are names, and texts can be spelled
abbrev pub HasSpellableKind : Kind → Type 0
HasSpellableKind SyncKind = Unit {0}
HasSpellableKind LossyKind = Unit {0}
HasSpellableKind DrainKind = Unit {0}
HasSpellableKind (FifoKind None) = Unit {0}
HasSpellableKind (FifoKind (Some constant)) = IsSpellable (const_token constant)
HasSpellableKind (FilterKind guard) = HasSpellableAtoms guard
HasSpellableKind (TransformKind function) = AreSpellable (function_tokens function)

abbrev pub CanBeSaid : Sentence → Type 0
CanBeSaid (PortLine way node) = IsSpellable (Word node)
CanBeSaid (ChannelLine kind a b) = IsSpellable (Word a) × IsSpellable (Word b) × HasSpellableKind kind
CanBeSaid (ComponentLine name) = IsSpellable (Word name)
CanBeSaid (PutLine node constant) = IsSpellable (Word node) × IsSpellable (const_token constant)
CanBeSaid (GetLine node) = IsSpellable (Word node)

-- what is written of a line are the tokens of its tree
abbrev pub SentencesAreWritten : Type 0
SentencesAreWritten = (sentence : Sentence) (known texts : List (List ℕ)) → Extends (numbered_sentence sentence known).0 texts
    → CanBeSaid sentence → is_wide sentence ≡ false
    → Writes (said_text texts (numbered_sentence sentence known).1) (line_tokens (tree_of sentence))

-- what a line says is written as a line that says it again
abbrev pub SentencesAreReadAgain : Type 0
SentencesAreReadAgain = (place : Place) (line : List ℕ) (sentence : Sentence) (known texts : List (List ℕ)) → IsUtf8 line
    → IsLine place (map (seen line) (cut 512 0 line).0) sentence → is_wide sentence ≡ false
    → Extends (numbered_sentence sentence known).0 texts
    → let again = said_text texts (numbered_sentence sentence known).1 in
    ((cut 512 0 again).1 ≡ Over) × IsLine place (map (seen again) (cut 512 0 again).0) sentence
