-- What a line says, with its constants by number.
use Rattle.std.specs.Prelude.{ℕ, ◌≤◌, IsUtf8, List, length, Some, None, slice_range}
use Rattle.reo_value.specs.declared.op.Way.{Way}
use Rattle.reo_value.specs.declared.value.Value.{Value}
use Rattle.reo_net.specs.declared.kind.Kind as net
use Rattle.reo_net.specs.declared.kind.Kind.TheVariants as kind
use Rattle.reo_grammar.specs.Lines.{Kind, SyncKind, LossyKind, DrainKind, FifoKind, FilterKind, TransformKind, Sentence, PortLine, ChannelLine, ComponentLine, PutLine, GetLine}
use Rattle.reo_sentence.specs.declared.said.Name.{Name}
use Rattle.reo_sentence.specs.declared.said.Sentence as rust
use Rattle.reo_sentence.specs.declared.said.Sentence.TheVariants as sentence
use Rattle.reo_sentence.specs.Numbered.{Numbering, then_as, numbered_const, numbered_guard, numbered_function}

pub data Said : Type 0 where
  PortSaid : (way : Way) (node : List ℕ) → Said
  ChannelSaid : (kind : net.Kind) (a b : List ℕ) → Said
  ComponentSaid : (name : List ℕ) → Said
  PutSaid : (node : List ℕ) (value : Value) → Said
  GetSaid : (node : List ℕ) → Said

abbrev pub numbered_kind : Kind → Numbering net.Kind
numbered_kind SyncKind = λ texts. (texts, kind.Sync)
numbered_kind LossyKind = λ texts. (texts, kind.Lossy)
numbered_kind DrainKind = λ texts. (texts, kind.Drain)
numbered_kind (FifoKind None) = λ texts. (texts, kind.Fifo None)
numbered_kind (FifoKind (Some constant)) = then_as (numbered_const constant) (λ value. kind.Fifo (Some value))
numbered_kind (FilterKind guard) = then_as (numbered_guard guard) kind.Filter
numbered_kind (TransformKind function) = then_as (numbered_function function) kind.Transform

abbrev pub numbered_sentence : Sentence → Numbering Said
numbered_sentence (PortLine way node) = λ texts. (texts, PortSaid way node)
numbered_sentence (ChannelLine kind a b) = then_as (numbered_kind kind) (λ k. ChannelSaid k a b)
numbered_sentence (ComponentLine name) = λ texts. (texts, ComponentSaid name)
numbered_sentence (PutLine node constant) = then_as (numbered_const constant) (PutSaid node)
numbered_sentence (GetLine node) = λ texts. (texts, GetSaid node)

-- the name at these places of a line
abbrev pub name_at : List ℕ → Name → List ℕ
name_at line name = slice_range line name.start name.end

-- a name stands in a line of so many bytes
abbrev pub StandsIn : ℕ → Name → Type 0
StandsIn len name = (name.start ≤ name.end) × (name.end ≤ len)

-- all names of a sentence do
abbrev pub NamesStandIn : ℕ → rust.Sentence → Type 0
NamesStandIn len (sentence.Port way node) = StandsIn len node
NamesStandIn len (sentence.Channel kind a b) = StandsIn len a × StandsIn len b
NamesStandIn len (sentence.Component name) = StandsIn len name
NamesStandIn len (sentence.Put node value) = StandsIn len node
NamesStandIn len (sentence.Get node) = StandsIn len node

-- a name of the line: it stands there, it is UTF-8, and it has at most 64 bytes
pub record IsNameIn (line : List ℕ) (name : Name) : Type 0 where
  pub stands : StandsIn (length line) name
  pub utf8 : IsUtf8 (name_at line name)
  pub short : length (name_at line name) ≤ 64

-- all names of a sentence are
abbrev pub AreNamesIn : List ℕ → rust.Sentence → Type 0
AreNamesIn line (sentence.Port way node) = IsNameIn line node
AreNamesIn line (sentence.Channel kind a b) = IsNameIn line a × IsNameIn line b
AreNamesIn line (sentence.Component name) = IsNameIn line name
AreNamesIn line (sentence.Put node value) = IsNameIn line node
AreNamesIn line (sentence.Get node) = IsNameIn line node

-- what a sentence of the line says
abbrev pub said : List ℕ → rust.Sentence → Said
said line (sentence.Port way node) = PortSaid way (name_at line node)
said line (sentence.Channel kind a b) = ChannelSaid kind (name_at line a) (name_at line b)
said line (sentence.Component name) = ComponentSaid (name_at line name)
said line (sentence.Put node value) = PutSaid (name_at line node) value
said line (sentence.Get node) = GetSaid (name_at line node)
