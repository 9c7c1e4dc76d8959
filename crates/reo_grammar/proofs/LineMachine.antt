-- The machine of lines: each step adds its token and keeps the place and the names lawful, and each state can be finished.
use Rattle.std.proofs.Common.{◌≡◌, ℕ, pos, ◌≤◌, nat_le, Bool, true, false, if◌then◌else◌, List, [], ◌∷◌, ◌++◌, length, All, Option, Some, None, IfSome, codes, refl, sym, ap, subst, ◌∙◌, append-nil, arith}
use borrow.Author.Tests.{leb-true}
use Rattle.std.specs.Option.{option_map}
use Rattle.std.proofs.lemmas.List.Elements.{All-nil, All-cons, All-head}
use Rattle.reo_value.specs.declared.op.Way.{Way}
use Rattle.reo_value.specs.declared.op.Way.TheVariants as way
use Rattle.reo_grammar.specs.declared.key.Key.{Key}
use Rattle.reo_grammar.specs.declared.key.Key.TheVariants as key
use Rattle.reo_grammar.specs.Key.{key_of, spelled}
use Rattle.reo_grammar.specs.Token.{Token, Word, Number, Text, Integer, word}
use Rattle.reo_grammar.specs.Guards.{GuardTree, guard_tokens}
use Rattle.reo_grammar.specs.Functions.{Function, function_tokens}
use Rattle.reo_grammar.specs.Lines.{KindTree, Sync, Lossy, Drain, Fifo, Full, Filter, Transform, kind_key, kind_tokens, LineTree, Port, Channel, Component, Put, Get, line_tokens, names_of, way_key, Place, Circuit, Scripts, Section, OfCircuit, OfScripts, OfBoth, section_of, is_allowed}
use Rattle.reo_grammar.specs.Lines as lines
use Rattle.reo_grammar.specs.Machine.Guards.{GuardState, before_guard, guard_before, guard_step, whole_guard}
use Rattle.reo_grammar.specs.Machine.Functions.{FunctionState, function_before, function_step, whole_function}
use Rattle.reo_grammar.specs.Machine.Lines.{ChannelWord, SyncWord, LossyWord, DrainWord, FifoWord, FilterWord, TransformWord, KindState, Whole, WantConst, InGuard, InFunction, State, LineStart, WantNode, WantA, WantB, Behind, WantName, WantPutNode, WantPutConst, WantGetNode, LineOver, channel_key, state_key, kind_before, line_before, with_name, circuit_word, script_word, begun, fifo_word, kind_step, step, whole_kind, whole}
use Rattle.reo_grammar.proofs.KeyLemmas.{IsSpelled, key_spelled}
use Rattle.reo_grammar.proofs.GuardMachine.{guard_adds, guard_ends, finished_guard, guard_tail, whole_guard-before}
use Rattle.reo_grammar.proofs.FunctionMachine.{function_adds, function_ends, finished_function, function_tail, whole_function-before}

-- Each step adds its token.
abbrev pub IsShort : List ℕ → Type 0
IsShort name = length name ≤ 64

-- which part of a document a state belongs to, and the names that have come
abbrev pub state_section : State → Section
state_section LineStart = OfBoth
state_section (WantNode way) = OfCircuit
state_section (WantA channel) = OfCircuit
state_section (WantB channel a) = OfCircuit
state_section (Behind kind a b) = OfCircuit
state_section WantName = OfBoth
state_section WantPutNode = OfScripts
state_section (WantPutConst node) = OfScripts
state_section WantGetNode = OfScripts
state_section (LineOver tree) = section_of tree

abbrev pub state_names : State → List (List ℕ)
state_names (WantB channel a) = a ∷ []
state_names (Behind kind a b) = a ∷ b ∷ []
state_names (WantPutConst node) = node ∷ []
state_names (LineOver tree) = names_of tree
state_names state = []

-- the state can come in this place
pub record IsState (place : Place) (state : State) : Type 0 where
  pub allowed : is_allowed place (state_section state) ≡ true
  pub named : All IsShort (state_names state)

pub record Follows (place : Place) (state : State) (token : Token) (next : State) : Type 0 where
  pub adds : line_before next ≡ line_before state ++ token ∷ []
  pub keeps : IsState place state → IsState place next

-- the word in front of a line
begins : (place : Place) (bytes : List ℕ) (k : Key) (next : State) → bytes ≡ spelled k → line_before next ≡ word k ∷ [] → state_names next ≡ [] → is_allowed place (state_section next) ≡ true
    → Follows place LineStart (Word bytes) next
begins place bytes k next is before names allowed = record {
  adds = before ∙ ap (λ b. Word b ∷ []) (sym is);
  keeps = λ state. record { allowed = allowed; named = subst (All IsShort) (sym names) (All-nil IsShort) };
}

circuit_begins : (place : Place) (bytes : List ℕ) (k : Key) → IsSpelled k bytes → is_allowed place OfCircuit ≡ true → IfSome (circuit_word k) (Follows place LineStart (Word bytes))
circuit_begins place bytes key.In is here = begins place bytes key.In (WantNode way.Put) is refl refl here
circuit_begins place bytes key.Out is here = begins place bytes key.Out (WantNode way.Get) is refl refl here
circuit_begins place bytes key.Sync is here = begins place bytes key.Sync (WantA SyncWord) is refl refl here
circuit_begins place bytes key.Lossy is here = begins place bytes key.Lossy (WantA LossyWord) is refl refl here
circuit_begins place bytes key.Drain is here = begins place bytes key.Drain (WantA DrainWord) is refl refl here
circuit_begins place bytes key.Fifo is here = begins place bytes key.Fifo (WantA FifoWord) is refl refl here
circuit_begins place bytes key.Filter is here = begins place bytes key.Filter (WantA FilterWord) is refl refl here
circuit_begins place bytes key.Transform is here = begins place bytes key.Transform (WantA TransformWord) is refl refl here
circuit_begins place bytes key.Component is here = begins place bytes key.Component WantName is refl refl refl
circuit_begins place bytes k is here = tt

script_begins : (place : Place) (bytes : List ℕ) (k : Key) → IsSpelled k bytes → is_allowed place OfScripts ≡ true → IfSome (script_word k) (Follows place LineStart (Word bytes))
script_begins place bytes key.Put is here = begins place bytes key.Put WantPutNode is refl refl here
script_begins place bytes key.Get is here = begins place bytes key.Get WantGetNode is refl refl here
script_begins place bytes key.Component is here = begins place bytes key.Component WantName is refl refl refl
script_begins place bytes k is here = tt

start_follows : (place : Place) (token : Token) → IfSome (step place LineStart token) (Follows place LineStart token)
start_follows lines.First (Word bytes) = circuit_begins lines.First bytes (key_of bytes) (key_spelled bytes) refl
start_follows Circuit (Word bytes) = circuit_begins Circuit bytes (key_of bytes) (key_spelled bytes) refl
start_follows Scripts (Word bytes) = script_begins Scripts bytes (key_of bytes) (key_spelled bytes) refl
start_follows lines.First token = tt
start_follows Circuit token = tt
start_follows Scripts token = tt

-- a name
named_follows : (place : Place) (state : State) (next : List ℕ → State) (token : Token) → ((name : List ℕ) → IsShort name → Follows place state (Word name) (next name))
    → IfSome (with_name next token) (Follows place state token)
named_follows place state next (Word name) follows = by (nat_le (length name) 64) refl
  where
    by : (short : Bool) → nat_le (length name) 64 ≡ short → IfSome (if short then Some (next name) else None) (Follows place state (Word name))
    by true short = follows name (leb-true (length name) 64 short)
    by false long = tt
named_follows place state next token follows = tt

-- one more name, with what the state had
alone : (name : List ℕ) → IsShort name → All IsShort (name ∷ [])
alone name short = All-cons IsShort name [] short (All-nil IsShort)

node_follows : (place : Place) (way : Way) (name : List ℕ) → IsShort name → Follows place (WantNode way) (Word name) (LineOver (Port way name))
node_follows place way name short = record { adds = refl; keeps = λ state. record { allowed = state.allowed; named = alone name short } }

a_follows : (place : Place) (channel : ChannelWord) (name : List ℕ) → IsShort name → Follows place (WantA channel) (Word name) (WantB channel name)
a_follows place channel name short = record { adds = refl; keeps = λ state. record { allowed = state.allowed; named = alone name short } }

begun_before : (channel : ChannelWord) (a b : List ℕ) → line_before (Behind (begun channel) a b) ≡ word (channel_key channel) ∷ Word a ∷ Word b ∷ []
unfolding before_guard
begun_before SyncWord a b = refl
begun_before LossyWord a b = refl
begun_before DrainWord a b = refl
begun_before FifoWord a b = refl
begun_before FilterWord a b = refl
begun_before TransformWord a b = refl

b_follows : (place : Place) (channel : ChannelWord) (a name : List ℕ) → IsShort name → Follows place (WantB channel a) (Word name) (Behind (begun channel) a name)
b_follows place channel a name short = record {
  adds = begun_before channel a name;
  keeps = λ state. record { allowed = state.allowed; named = All-cons IsShort a (name ∷ []) (All-head IsShort a [] state.named) (alone name short) };
}

component_follows : (place : Place) (name : List ℕ) → IsShort name → Follows place WantName (Word name) (LineOver (Component name))
component_follows place name short = record { adds = refl; keeps = λ state. record { allowed = state.allowed; named = alone name short } }

put_follows : (place : Place) (name : List ℕ) → IsShort name → Follows place WantPutNode (Word name) (WantPutConst name)
put_follows place name short = record { adds = refl; keeps = λ state. record { allowed = state.allowed; named = alone name short } }

get_follows : (place : Place) (name : List ℕ) → IsShort name → Follows place WantGetNode (Word name) (LineOver (Get name))
get_follows place name short = record { adds = refl; keeps = λ state. record { allowed = state.allowed; named = alone name short } }

const_follows : (place : Place) (node : List ℕ) (token : Token) → IfSome (step place (WantPutConst node) token) (Follows place (WantPutConst node) token)
const_follows place node (Number value) = record { adds = refl; keeps = λ state. record { allowed = state.allowed; named = state.named } }
const_follows place node (Text value) = record { adds = refl; keeps = λ state. record { allowed = state.allowed; named = state.named } }
const_follows place node token = tt

-- the parts behind the nodes of a channel
pub record KindFollows (kind : KindState) (token : Token) (next : KindState) : Type 0 where
  pub adds : kind_before next ≡ kind_before kind ++ token ∷ []
  pub key : state_key next ≡ state_key kind

full_follows : (bytes : List ℕ) (k : Key) → IsSpelled k bytes → IfSome (fifo_word k) (KindFollows (Whole Fifo) (Word bytes))
full_follows bytes key.Full is = record { adds = ap (λ b. Word b ∷ []) (sym is); key = refl }
full_follows bytes k is = tt

guard_follows : (state : GuardState) (token : Token) (next : Option GuardState) → IfSome next (λ n. guard_before n ≡ guard_before state ++ token ∷ [])
    → IfSome (option_map InGuard next) (KindFollows (InGuard state) token)
guard_follows state token None is = tt
guard_follows state token (Some next) is = record { adds = is; key = refl }

function_follows : (state : FunctionState) (token : Token) (next : Option FunctionState) → IfSome next (λ n. function_before n ≡ function_before state ++ token ∷ [])
    → IfSome (option_map InFunction next) (KindFollows (InFunction state) token)
function_follows state token None is = tt
function_follows state token (Some next) is = record { adds = is; key = refl }

kind_follows : (kind : KindState) (token : Token) → IfSome (kind_step kind token) (KindFollows kind token)
kind_follows (Whole Fifo) (Word bytes) = full_follows bytes (key_of bytes) (key_spelled bytes)
kind_follows (Whole kind) token = tt
kind_follows WantConst (Number value) = record { adds = refl; key = refl }
kind_follows WantConst (Text value) = record { adds = refl; key = refl }
kind_follows WantConst token = tt
kind_follows (InGuard state) token = guard_follows state token (guard_step state token) (guard_adds state token)
kind_follows (InFunction state) token = function_follows state token (function_step state token) (function_adds state token)

behind_follows : (place : Place) (kind : KindState) (a b : List ℕ) (token : Token) (next : Option KindState) → IfSome next (KindFollows kind token)
    → IfSome (option_map (λ n. Behind n a b) next) (Follows place (Behind kind a b) token)
behind_follows place kind a b token None follows = tt
behind_follows place kind a b token (Some next) follows = record {
  adds = ap (λ k. word k ∷ Word a ∷ Word b ∷ kind_before next) follows.key ∙ ap (λ ts. word (state_key kind) ∷ Word a ∷ Word b ∷ ts) follows.adds;
  keeps = λ state. record { allowed = state.allowed; named = state.named };
}

pub step_follows : (place : Place) (state : State) (token : Token) → IfSome (step place state token) (Follows place state token)
step_follows place LineStart token = start_follows place token
step_follows place (WantNode way) token = named_follows place (WantNode way) (λ node. LineOver (Port way node)) token (node_follows place way)
step_follows place (WantA channel) token = named_follows place (WantA channel) (WantB channel) token (a_follows place channel)
step_follows place (WantB channel a) token = named_follows place (WantB channel a) (λ b. Behind (begun channel) a b) token (b_follows place channel a)
step_follows place (Behind kind a b) token = behind_follows place kind a b token (kind_step kind token) (kind_follows kind token)
step_follows place WantName token = named_follows place WantName (λ name. LineOver (Component name)) token (component_follows place)
step_follows place WantPutNode token = named_follows place WantPutNode WantPutConst token (put_follows place)
step_follows place (WantPutConst node) token = const_follows place node token
step_follows place WantGetNode token = named_follows place WantGetNode (λ node. LineOver (Get node)) token (get_follows place)
step_follows place (LineOver tree) token = tt

-- Each state can be finished.
finished_kind : KindState → KindTree
finished_kind (Whole kind) = kind
finished_kind WantConst = Full (Integer (pos 0))
finished_kind (InGuard state) = Filter (finished_guard state)
finished_kind (InFunction state) = Transform (finished_function state)

kind_tail : KindState → List Token
kind_tail (Whole kind) = []
kind_tail WantConst = Number (pos 0) ∷ []
kind_tail (InGuard state) = guard_tail state
kind_tail (InFunction state) = function_tail state

finished_key : (kind : KindState) → kind_key (finished_kind kind) ≡ state_key kind
unfolding finished_kind
finished_key (Whole kind) = refl
finished_key WantConst = refl
finished_key (InGuard state) = refl
finished_key (InFunction state) = refl

kind_ends : (kind : KindState) → kind_tokens (finished_kind kind) ≡ kind_before kind ++ kind_tail kind
unfolding finished_kind kind_tail
kind_ends (Whole kind) = sym (append-nil (kind_tokens kind))
kind_ends WantConst = refl
kind_ends (InGuard state) = guard_ends state
kind_ends (InFunction state) = function_ends state

-- some name
x : List ℕ
x = codes "x"

x_short : IsShort x
unfolding x
x_short = omega arith

pub finished : State → LineTree
finished LineStart = Component x
finished (WantNode way) = Port way x
finished (WantA channel) = Channel (finished_kind (begun channel)) x x
finished (WantB channel a) = Channel (finished_kind (begun channel)) a x
finished (Behind kind a b) = Channel (finished_kind kind) a b
finished WantName = Component x
finished WantPutNode = Put x (Integer (pos 0))
finished (WantPutConst node) = Put node (Integer (pos 0))
finished WantGetNode = Get x
finished (LineOver tree) = tree

pub line_tail : State → List Token
line_tail LineStart = word key.Component ∷ Word x ∷ []
line_tail (WantNode way) = Word x ∷ []
line_tail (WantA channel) = Word x ∷ Word x ∷ kind_tail (begun channel)
line_tail (WantB channel a) = Word x ∷ kind_tail (begun channel)
line_tail (Behind kind a b) = kind_tail kind
line_tail WantName = Word x ∷ []
line_tail WantPutNode = Word x ∷ Number (pos 0) ∷ []
line_tail (WantPutConst node) = Number (pos 0) ∷ []
line_tail WantGetNode = Word x ∷ []
line_tail (LineOver tree) = []

begun_key : (channel : ChannelWord) → state_key (begun channel) ≡ channel_key channel
begun_key SyncWord = refl
begun_key LossyWord = refl
begun_key DrainWord = refl
begun_key FifoWord = refl
begun_key FilterWord = refl
begun_key TransformWord = refl

begun_empty : (channel : ChannelWord) → kind_before (begun channel) ≡ []
unfolding before_guard
begun_empty SyncWord = refl
begun_empty LossyWord = refl
begun_empty DrainWord = refl
begun_empty FifoWord = refl
begun_empty FilterWord = refl
begun_empty TransformWord = refl

-- a channel's line that is finished behind its nodes
channel_ends : (kind : KindState) (a b : List ℕ) → line_tokens (Channel (finished_kind kind) a b) ≡ word (state_key kind) ∷ Word a ∷ Word b ∷ (kind_before kind ++ kind_tail kind)
channel_ends kind a b =
    ap (λ k. word k ∷ Word a ∷ Word b ∷ kind_tokens (finished_kind kind)) (finished_key kind) ∙ ap (λ ts. word (state_key kind) ∷ Word a ∷ Word b ∷ ts) (kind_ends kind)

begun_ends : (channel : ChannelWord) (a b : List ℕ) → line_tokens (Channel (finished_kind (begun channel)) a b) ≡ word (channel_key channel) ∷ Word a ∷ Word b ∷ kind_tail (begun channel)
begun_ends channel a b =
    channel_ends (begun channel) a b ∙ ap (λ k. word k ∷ Word a ∷ Word b ∷ (kind_before (begun channel) ++ kind_tail (begun channel))) (begun_key channel)
    ∙ ap (λ ts. word (channel_key channel) ∷ Word a ∷ Word b ∷ (ts ++ kind_tail (begun channel))) (begun_empty channel)

pub line_ends : (state : State) → line_tokens (finished state) ≡ line_before state ++ line_tail state
unfolding finished line_tail
line_ends LineStart = refl
line_ends (WantNode way) = refl
line_ends (WantA channel) = begun_ends channel x x
line_ends (WantB channel a) = begun_ends channel a x
line_ends (Behind kind a b) = channel_ends kind a b
line_ends WantName = refl
line_ends WantPutNode = refl
line_ends (WantPutConst node) = refl
line_ends WantGetNode = refl
line_ends (LineOver tree) = sym (append-nil (line_tokens tree))

-- what it is finished to may stand here
pub record IsLawful (place : Place) (tree : LineTree) : Type 0 where
  pub allowed : is_allowed place (section_of tree) ≡ true
  pub named : All IsShort (names_of tree)

pub finished_lawful : (place : Place) (state : State) → IsState place state → IsLawful place (finished state)
unfolding finished
finished_lawful place LineStart is = record { allowed = is.allowed; named = alone x x_short }
finished_lawful place (WantNode way) is = record { allowed = is.allowed; named = alone x x_short }
finished_lawful place (WantA channel) is = record { allowed = is.allowed; named = All-cons IsShort x (x ∷ []) x_short (alone x x_short) }
finished_lawful place (WantB channel a) is = record { allowed = is.allowed; named = All-cons IsShort a (x ∷ []) (All-head IsShort a [] is.named) (alone x x_short) }
finished_lawful place (Behind kind a b) is = record { allowed = is.allowed; named = is.named }
finished_lawful place WantName is = record { allowed = is.allowed; named = alone x x_short }
finished_lawful place WantPutNode is = record { allowed = is.allowed; named = alone x x_short }
finished_lawful place (WantPutConst node) is = record { allowed = is.allowed; named = is.named }
finished_lawful place WantGetNode is = record { allowed = is.allowed; named = alone x x_short }
finished_lawful place (LineOver tree) is = record { allowed = is.allowed; named = is.named }

-- A whole line has the tokens that led to it, and may stand here where its state can.
pub record IsWhole (state : State) (tree : LineTree) : Type 0 where
  pub spelled : line_tokens tree ≡ line_before state
  pub section : section_of tree ≡ state_section state
  pub names : names_of tree ≡ state_names state

pub record IsWholeKind (kind : KindState) (tree : KindTree) : Type 0 where
  pub spelled : kind_tokens tree ≡ kind_before kind
  pub key : kind_key tree ≡ state_key kind

whole_kind-guard : (state : GuardState) (guard : Option GuardTree) → IfSome guard (λ g. guard_tokens g ≡ guard_before state) → IfSome (option_map Filter guard) (IsWholeKind (InGuard state))
whole_kind-guard state None is = tt
whole_kind-guard state (Some guard) is = record { spelled = is; key = refl }

whole_kind-function : (state : FunctionState) (function : Option Function) → IfSome function (λ f. function_tokens f ≡ function_before state)
    → IfSome (option_map Transform function) (IsWholeKind (InFunction state))
whole_kind-function state None is = tt
whole_kind-function state (Some function) is = record { spelled = is; key = refl }

whole_kind-is : (kind : KindState) → IfSome (whole_kind kind) (IsWholeKind kind)
whole_kind-is (Whole kind) = record { spelled = refl; key = refl }
whole_kind-is WantConst = tt
whole_kind-is (InGuard state) = whole_kind-guard state (whole_guard state) (whole_guard-before state)
whole_kind-is (InFunction state) = whole_kind-function state (whole_function state) (whole_function-before state)

whole_behind : (kind : KindState) (a b : List ℕ) (tree : Option KindTree) → IfSome tree (IsWholeKind kind) → IfSome (option_map (λ k. Channel k a b) tree) (IsWhole (Behind kind a b))
whole_behind kind a b None is = tt
whole_behind kind a b (Some tree) is = record {
  spelled = ap (λ k. word k ∷ Word a ∷ Word b ∷ kind_tokens tree) is.key ∙ ap (λ ts. word (state_key kind) ∷ Word a ∷ Word b ∷ ts) is.spelled;
  section = refl;
  names = refl;
}

pub whole_is : (state : State) → IfSome (whole state) (IsWhole state)
whole_is (Behind kind a b) = whole_behind kind a b (whole_kind kind) (whole_kind-is kind)
whole_is (LineOver tree) = record { spelled = refl; section = refl; names = refl }
whole_is state = tt
