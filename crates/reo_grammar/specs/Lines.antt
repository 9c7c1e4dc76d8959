-- The lines of a document, each with its tokens, its meaning and the place where it may stand.
use Rattle.std.specs.Prelude.{◌≡◌, ℕ, ◌≤◌, Bool, true, false, List, [], ◌∷◌, length, All, Option, Some, None}
use Rattle.reo_value.specs.declared.op.Way.{Way}
use Rattle.reo_value.specs.declared.op.Way.TheVariants as way
use Rattle.reo_grammar.specs.declared.key.Key.{Key}
use Rattle.reo_grammar.specs.declared.key.Key.TheVariants as key
use Rattle.reo_grammar.specs.Token.{Token, Word, Const, const_token, word}
use Rattle.reo_grammar.specs.Guards.{GuardTree, guard_tokens, Guard, guard_of}
use Rattle.reo_grammar.specs.Functions.{Function, function_tokens}

-- a kind of channel, as it is written
pub data KindTree : Type 0 where
  Sync : KindTree
  Lossy : KindTree
  Drain : KindTree
  Fifo : KindTree
  Full : (constant : Const) → KindTree
  Filter : (guard : GuardTree) → KindTree
  Transform : (function : Function) → KindTree

pub data LineTree : Type 0 where
  Port : (way : Way) (node : List ℕ) → LineTree
  Channel : (kind : KindTree) (a b : List ℕ) → LineTree
  Component : (name : List ℕ) → LineTree
  Put : (node : List ℕ) (constant : Const) → LineTree
  Get : (node : List ℕ) → LineTree

-- `in` makes a put port, `out` a get port
abbrev pub way_key : Way → Key
way_key way.Put = key.In
way_key way.Get = key.Out

-- the word in front of a channel
abbrev pub kind_key : KindTree → Key
kind_key Sync = key.Sync
kind_key Lossy = key.Lossy
kind_key Drain = key.Drain
kind_key Fifo = key.Fifo
kind_key (Full constant) = key.Fifo
kind_key (Filter guard) = key.Filter
kind_key (Transform function) = key.Transform

-- what stands behind its two nodes
abbrev pub kind_tokens : KindTree → List Token
kind_tokens Sync = []
kind_tokens Lossy = []
kind_tokens Drain = []
kind_tokens Fifo = []
kind_tokens (Full constant) = word key.Full ∷ const_token constant ∷ []
kind_tokens (Filter guard) = guard_tokens guard
kind_tokens (Transform function) = function_tokens function

abbrev pub line_tokens : LineTree → List Token
line_tokens (Port way node) = word (way_key way) ∷ Word node ∷ []
line_tokens (Channel kind a b) = word (kind_key kind) ∷ Word a ∷ Word b ∷ kind_tokens kind
line_tokens (Component name) = word key.Component ∷ Word name ∷ []
line_tokens (Put node constant) = word key.Put ∷ Word node ∷ const_token constant ∷ []
line_tokens (Get node) = word key.Get ∷ Word node ∷ []

-- the names of a line
abbrev pub names_of : LineTree → List (List ℕ)
names_of (Port way node) = node ∷ []
names_of (Channel kind a b) = a ∷ b ∷ []
names_of (Component name) = name ∷ []
names_of (Put node constant) = node ∷ []
names_of (Get node) = node ∷ []

-- where a line stands: as the first, before the first component, or behind a component line
pub data Place : Type 0 where
  First : Place
  Circuit : Place
  Scripts : Place

-- which part of a document a line is of
pub data Section : Type 0 where
  OfCircuit : Section
  OfScripts : Section
  OfBoth : Section

abbrev pub section_of : LineTree → Section
section_of (Port way node) = OfCircuit
section_of (Channel kind a b) = OfCircuit
section_of (Component name) = OfBoth
section_of (Put node constant) = OfScripts
section_of (Get node) = OfScripts

-- lines of the circuit stand before the first component, operations behind one, and component lines anywhere
abbrev pub is_allowed : Place → Section → Bool
is_allowed First OfCircuit = true
is_allowed Circuit OfCircuit = true
is_allowed Scripts OfCircuit = false
is_allowed First OfScripts = false
is_allowed Circuit OfScripts = false
is_allowed Scripts OfScripts = true
is_allowed place OfBoth = true

-- what a channel's line says of its kind
pub data Kind : Type 0 where
  SyncKind : Kind
  LossyKind : Kind
  DrainKind : Kind
  FifoKind : (first : Option Const) → Kind
  FilterKind : (guard : Guard) → Kind
  TransformKind : (function : Function) → Kind

abbrev pub kind_of : KindTree → Kind
kind_of Sync = SyncKind
kind_of Lossy = LossyKind
kind_of Drain = DrainKind
kind_of Fifo = FifoKind None
kind_of (Full constant) = FifoKind (Some constant)
kind_of (Filter guard) = FilterKind (guard_of guard)
kind_of (Transform function) = TransformKind function

-- what a line says
pub data Sentence : Type 0 where
  PortLine : (way : Way) (node : List ℕ) → Sentence
  ChannelLine : (kind : Kind) (a b : List ℕ) → Sentence
  ComponentLine : (name : List ℕ) → Sentence
  PutLine : (node : List ℕ) (constant : Const) → Sentence
  GetLine : (node : List ℕ) → Sentence

abbrev pub sentence_of : LineTree → Sentence
sentence_of (Port way node) = PortLine way node
sentence_of (Channel kind a b) = ChannelLine (kind_of kind) a b
sentence_of (Component name) = ComponentLine name
sentence_of (Put node constant) = PutLine node constant
sentence_of (Get node) = GetLine node

-- the tokens are a line that may stand in this place, and it says this
pub record IsLine (place : Place) (tokens : List Token) (sentence : Sentence) : Type 0 where
  pub tree : LineTree
  pub spelled : tokens ≡ line_tokens tree
  pub meant : sentence ≡ sentence_of tree
  pub allowed : is_allowed place (section_of tree) ≡ true
  -- a longer word in the place of a name is a token with which no line goes on
  pub named : All (λ name. length name ≤ 64) (names_of tree)
