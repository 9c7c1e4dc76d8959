-- What has come of a line, and how it goes on.
use Rattle.std.specs.Prelude.{ℕ, nat_le, if◌then◌else◌, List, [], ◌∷◌, length, Option, Some, None}
use Rattle.std.specs.Option.{option_map}
use Rattle.reo_value.specs.declared.op.Way.{Way}
use Rattle.reo_value.specs.declared.op.Way.TheVariants as way
use Rattle.reo_grammar.specs.declared.key.Key.{Key}
use Rattle.reo_grammar.specs.declared.key.Key.TheVariants as key
use Rattle.reo_grammar.specs.Token.{Token, Word, Number, Text, Sign, word}
use Rattle.reo_grammar.specs.Lines.{KindTree, Sync, Lossy, Drain, Fifo, Full, Filter, Transform, kind_key, kind_tokens, LineTree, Port, Channel, Component, Put, Get, line_tokens, way_key, Place, Circuit, Scripts}
use Rattle.reo_grammar.specs.Lines as lines
use Rattle.reo_grammar.specs.Machine.Run.{run}
use Rattle.reo_grammar.specs.Machine.Guards.{GuardState, guard_before, guard_start, guard_step, whole_guard, const_of, token_key}
use Rattle.reo_grammar.specs.Machine.Functions.{FunctionState, Start, function_before, function_step, whole_function}

-- the word in front of a channel
pub data ChannelWord : Type 0 where
  SyncWord : ChannelWord
  LossyWord : ChannelWord
  DrainWord : ChannelWord
  FifoWord : ChannelWord
  FilterWord : ChannelWord
  TransformWord : ChannelWord

-- what has come behind a channel's nodes
pub data KindState : Type 0 where
  -- all of it, but a full buffer may follow an empty one
  Whole : (kind : KindTree) → KindState
  WantConst : KindState
  InGuard : (state : GuardState) → KindState
  InFunction : (state : FunctionState) → KindState

pub data State : Type 0 where
  LineStart : State
  WantNode : (way : Way) → State
  WantA : (channel : ChannelWord) → State
  WantB : (channel : ChannelWord) (a : List ℕ) → State
  Behind : (kind : KindState) (a b : List ℕ) → State
  WantName : State
  WantPutNode : State
  WantPutConst : (node : List ℕ) → State
  WantGetNode : State
  LineOver : (tree : LineTree) → State

abbrev pub channel_key : ChannelWord → Key
channel_key SyncWord = key.Sync
channel_key LossyWord = key.Lossy
channel_key DrainWord = key.Drain
channel_key FifoWord = key.Fifo
channel_key FilterWord = key.Filter
channel_key TransformWord = key.Transform

abbrev pub state_key : KindState → Key
state_key (Whole kind) = kind_key kind
state_key WantConst = key.Fifo
state_key (InGuard state) = key.Filter
state_key (InFunction state) = key.Transform

abbrev pub kind_before : KindState → List Token
kind_before (Whole kind) = kind_tokens kind
kind_before WantConst = word key.Full ∷ []
kind_before (InGuard state) = guard_before state
kind_before (InFunction state) = function_before state

-- the tokens that lead to a state
abbrev pub line_before : State → List Token
line_before LineStart = []
line_before (WantNode way) = word (way_key way) ∷ []
line_before (WantA channel) = word (channel_key channel) ∷ []
line_before (WantB channel a) = word (channel_key channel) ∷ Word a ∷ []
line_before (Behind kind a b) = word (state_key kind) ∷ Word a ∷ Word b ∷ kind_before kind
line_before WantName = word key.Component ∷ []
line_before WantPutNode = word key.Put ∷ []
line_before (WantPutConst node) = word key.Put ∷ Word node ∷ []
line_before WantGetNode = word key.Get ∷ []
line_before (LineOver tree) = line_tokens tree

-- a name, and what it leads to
abbrev pub with_name : (List ℕ → State) → Token → Option State
with_name next (Word bytes) = if nat_le (length bytes) 64 then Some (next bytes) else None
with_name next (Number value) = None
with_name next (Text value) = None
with_name next (Sign symbol) = None

abbrev pub circuit_word : Key → Option State
circuit_word key.In = Some (WantNode way.Put)
circuit_word key.Out = Some (WantNode way.Get)
circuit_word key.Sync = Some (WantA SyncWord)
circuit_word key.Lossy = Some (WantA LossyWord)
circuit_word key.Drain = Some (WantA DrainWord)
circuit_word key.Fifo = Some (WantA FifoWord)
circuit_word key.Filter = Some (WantA FilterWord)
circuit_word key.Transform = Some (WantA TransformWord)
circuit_word key.Component = Some WantName
circuit_word key = None

abbrev pub script_word : Key → Option State
script_word key.Put = Some WantPutNode
script_word key.Get = Some WantGetNode
script_word key.Component = Some WantName
script_word key = None

abbrev pub line_word : Place → Key → Option State
line_word lines.First word = circuit_word word
line_word Circuit word = circuit_word word
line_word Scripts word = script_word word

-- what comes behind the nodes of a channel
abbrev pub begun : ChannelWord → KindState
begun SyncWord = Whole Sync
begun LossyWord = Whole Lossy
begun DrainWord = Whole Drain
begun FifoWord = Whole Fifo
begun FilterWord = InGuard guard_start
begun TransformWord = InFunction Start

abbrev pub fifo_word : Key → Option KindState
fifo_word key.Full = Some WantConst
fifo_word key = None

abbrev pub whole_step : KindTree → Token → Option KindState
whole_step Fifo token = fifo_word (token_key token)
whole_step kind token = None

abbrev pub kind_step : KindState → Token → Option KindState
kind_step (Whole kind) token = whole_step kind token
kind_step WantConst token = option_map (λ constant. Whole (Full constant)) (const_of token)
kind_step (InGuard state) token = option_map InGuard (guard_step state token)
kind_step (InFunction state) token = option_map InFunction (function_step state token)

abbrev pub step : Place → State → Token → Option State
step place LineStart token = line_word place (token_key token)
step place (WantNode way) token = with_name (λ node. LineOver (Port way node)) token
step place (WantA channel) token = with_name (WantB channel) token
step place (WantB channel a) token = with_name (λ b. Behind (begun channel) a b) token
step place (Behind kind a b) token = option_map (λ next. Behind next a b) (kind_step kind token)
step place WantName token = with_name (λ name. LineOver (Component name)) token
step place WantPutNode token = with_name WantPutConst token
step place (WantPutConst node) token = option_map (λ constant. LineOver (Put node constant)) (const_of token)
step place WantGetNode token = with_name (λ node. LineOver (Get node)) token
step place (LineOver tree) token = None

abbrev pub whole_kind : KindState → Option KindTree
whole_kind (Whole kind) = Some kind
whole_kind WantConst = None
whole_kind (InGuard state) = option_map Filter (whole_guard state)
whole_kind (InFunction state) = option_map Transform (whole_function state)

abbrev pub whole : State → Option LineTree
whole (Behind kind a b) = option_map (λ k. Channel k a b) (whole_kind kind)
whole (LineOver tree) = Some tree
whole state = None

-- the state behind some tokens of a line
abbrev pub go : Place → List Token → Option State
go place tokens = run (step place) (Some LineStart) tokens
