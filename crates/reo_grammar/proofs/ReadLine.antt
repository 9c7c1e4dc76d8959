-- The tokens of a line lead to it.
use Rattle.std.proofs.Common.{◌≡◌, ℕ, true, if◌then◌else◌, List, [], ◌∷◌, length, Some, None, refl, ap, ◌∙◌}
use borrow.Author.Tests.{le-leb}
use Rattle.std.specs.Option.{option_map}
use Rattle.std.proofs.lemmas.List.Elements.{All-head, All-tail}
use Rattle.std.proofs.lemmas.Bool.{false≢true}
use Rattle.reo_value.specs.declared.op.Way.{Way}
use Rattle.reo_value.specs.declared.op.Way.TheVariants as way
use Rattle.reo_grammar.specs.declared.key.Key.TheVariants as key
use Rattle.reo_grammar.specs.Key.{key_of, spelled}
use Rattle.reo_grammar.specs.Token.{Token, Word, Const, Integer, Phrase, const_token, word}
use Rattle.reo_grammar.specs.Guards.{guard_tokens}
use Rattle.reo_grammar.specs.Functions.{function_tokens}
use Rattle.reo_grammar.specs.Lines.{KindTree, Sync, Lossy, Drain, Fifo, Full, Filter, Transform, kind_key, kind_tokens, LineTree, Port, Channel, Component, Put, Get, line_tokens, way_key, Place, Circuit, Scripts, OfCircuit, OfScripts, is_allowed}
use Rattle.reo_grammar.specs.Lines as lines
use Rattle.reo_grammar.specs.Machine.Run.{run}
use Rattle.reo_grammar.specs.Machine.Guards.{Top, guard_start, guard_step, have_guard}
use Rattle.reo_grammar.specs.Machine.Functions.{Start, Over, function_step}
use Rattle.reo_grammar.specs.Machine.Lines.{ChannelWord, SyncWord, LossyWord, DrainWord, FifoWord, FilterWord, TransformWord, KindState, Whole, InGuard, InFunction, State, LineStart, WantNode, WantA, WantB, Behind, WantName, WantPutNode, WantPutConst, WantGetNode, LineOver, with_name, circuit_word, script_word, begun, kind_step, step, whole_kind, whole, go}
use Rattle.reo_grammar.proofs.RunLemmas.{run-step, run-map}
use Rattle.reo_grammar.proofs.GuardMachine.{reads_guard, whole_guard-have}
use Rattle.reo_grammar.proofs.FunctionMachine.{reads_function}
use Rattle.reo_grammar.proofs.LineMachine.{IsShort, IsLawful}

-- the tokens lead to a state in which this line is whole
pub record Reaches (place : Place) (tokens : List Token) (tree : LineTree) : Type 0 where
  pub state : State
  pub led : go place tokens ≡ Some state
  pub is_whole : whole state ≡ Some tree

pub circuit_step : (place : Place) (bytes : List ℕ) → is_allowed place OfCircuit ≡ true → step place LineStart (Word bytes) ≡ circuit_word (key_of bytes)
circuit_step lines.First bytes here = refl
circuit_step Circuit bytes here = refl
circuit_step Scripts bytes here = absurd (false≢true here)

pub script_step : (place : Place) (bytes : List ℕ) → is_allowed place OfScripts ≡ true → step place LineStart (Word bytes) ≡ script_word (key_of bytes)
script_step lines.First bytes here = absurd (false≢true here)
script_step Circuit bytes here = absurd (false≢true here)
script_step Scripts bytes here = refl

pub component_step : (place : Place) → step place LineStart (word key.Component) ≡ Some WantName
unfolding key_of
component_step lines.First = refl
component_step Circuit = refl
component_step Scripts = refl

pub name_step : (next : List ℕ → State) (name : List ℕ) → IsShort name → with_name next (Word name) ≡ Some (next name)
name_step next name short = ap (λ b. if b then Some (next name) else None) (le-leb (length name) 64 short)

pub const_step : (place : Place) (node : List ℕ) (constant : Const) → step place (WantPutConst node) (const_token constant) ≡ Some (LineOver (Put node constant))
const_step place node (Integer value) = refl
const_step place node (Phrase value) = refl

-- the word of a channel
pub channel_of : KindTree → ChannelWord
channel_of Sync = SyncWord
channel_of Lossy = LossyWord
channel_of Drain = DrainWord
channel_of Fifo = FifoWord
channel_of (Full constant) = FifoWord
channel_of (Filter guard) = FilterWord
channel_of (Transform function) = TransformWord

channel_step : (place : Place) (kind : KindTree) → is_allowed place OfCircuit ≡ true → step place LineStart (word (kind_key kind)) ≡ Some (WantA (channel_of kind))
unfolding key_of channel_of
channel_step place Sync here = circuit_step place (spelled key.Sync) here
channel_step place Lossy here = circuit_step place (spelled key.Lossy) here
channel_step place Drain here = circuit_step place (spelled key.Drain) here
channel_step place Fifo here = circuit_step place (spelled key.Fifo) here
channel_step place (Full constant) here = circuit_step place (spelled key.Fifo) here
channel_step place (Filter guard) here = circuit_step place (spelled key.Filter) here
channel_step place (Transform function) here = circuit_step place (spelled key.Transform) here

-- what stands behind the nodes leads to a state in which the kind is whole
pub record ReachesKind (kind : KindTree) : Type 0 where
  pub state : KindState
  pub led : run kind_step (Some (begun (channel_of kind))) (kind_tokens kind) ≡ Some state
  pub is_whole : whole_kind state ≡ Some kind

reaches_kind : (kind : KindTree) → ReachesKind kind
unfolding run key_of channel_of
reaches_kind Sync = record { state = Whole Sync; led = refl; is_whole = refl }
reaches_kind Lossy = record { state = Whole Lossy; led = refl; is_whole = refl }
reaches_kind Drain = record { state = Whole Drain; led = refl; is_whole = refl }
reaches_kind Fifo = record { state = Whole Fifo; led = refl; is_whole = refl }
reaches_kind (Full (Integer value)) = record { state = Whole (Full (Integer value)); led = refl; is_whole = refl }
reaches_kind (Full (Phrase value)) = record { state = Whole (Full (Phrase value)); led = refl; is_whole = refl }
reaches_kind (Filter guard) = record {
  state = InGuard (have_guard Top guard);
  led = run-map InGuard guard_step kind_step (λ s token. refl) (Some guard_start) (guard_tokens guard) ∙ ap (option_map InGuard) (reads_guard Top guard);
  is_whole = ap (option_map Filter) (whole_guard-have guard);
}
reaches_kind (Transform function) = record {
  state = InFunction (Over function);
  led = run-map InFunction function_step kind_step (λ s token. refl) (Some Start) (function_tokens function) ∙ ap (option_map InFunction) (reads_function function);
  is_whole = refl;
}

pub leads : (place : Place) (state next end : State) (token : Token) (tokens : List Token) → step place state token ≡ Some next → run (step place) (Some next) tokens ≡ Some end
    → run (step place) (Some state) (token ∷ tokens) ≡ Some end
leads place state next end token tokens is rest = run-step (step place) state next token tokens (Some end) is rest

pub ends_here : (place : Place) (state : State) → run (step place) (Some state) [] ≡ Some state
unfolding run
ends_here place state = refl

port_step : (place : Place) (way : Way) → is_allowed place OfCircuit ≡ true → step place LineStart (word (way_key way)) ≡ Some (WantNode way)
unfolding key_of
port_step place way.Put here = circuit_step place (spelled key.In) here
port_step place way.Get here = circuit_step place (spelled key.Out) here

put_step : (place : Place) → is_allowed place OfScripts ≡ true → step place LineStart (word key.Put) ≡ Some WantPutNode
unfolding key_of
put_step place here = script_step place (spelled key.Put) here

get_step : (place : Place) → is_allowed place OfScripts ≡ true → step place LineStart (word key.Get) ≡ Some WantGetNode
unfolding key_of
get_step place here = script_step place (spelled key.Get) here

pub reaches_line : (place : Place) (tree : LineTree) → IsLawful place tree → Reaches place (line_tokens tree) tree
reaches_line place (Port way node) is = record {
  state = LineOver (Port way node);
  led =
      leads place LineStart (WantNode way) _ (word (way_key way)) (Word node ∷ []) (port_step place way is.allowed)
      (leads place (WantNode way) (LineOver (Port way node)) _ (Word node) [] (name_step (λ n. LineOver (Port way n)) node (All-head IsShort node [] is.named)) (ends_here place _));
  is_whole = refl;
}
reaches_line place (Channel kind a b) is =
    let kinds = reaches_kind kind in
    record {
      state = Behind kinds.state a b;
      led =
          leads place LineStart (WantA (channel_of kind)) _ (word (kind_key kind)) (Word a ∷ Word b ∷ kind_tokens kind) (channel_step place kind is.allowed)
          (leads place (WantA (channel_of kind)) (WantB (channel_of kind) a) _ (Word a) (Word b ∷ kind_tokens kind) (name_step (WantB (channel_of kind)) a (All-head IsShort a (b ∷ []) is.named))
          (leads place (WantB (channel_of kind) a) (Behind (begun (channel_of kind)) a b) _ (Word b) (kind_tokens kind) (name_step (λ n. Behind (begun (channel_of kind)) a n) b (All-head IsShort b [] (All-tail IsShort a (b ∷ []) is.named)))
          (run-map (λ k. Behind k a b) kind_step (step place) (λ s token. refl) (Some (begun (channel_of kind))) (kind_tokens kind) ∙ ap (option_map (λ k. Behind k a b)) kinds.led)));
      is_whole = ap (option_map (λ k. Channel k a b)) kinds.is_whole;
    }
reaches_line place (Component name) is = record {
  state = LineOver (Component name);
  led =
      leads place LineStart WantName _ (word key.Component) (Word name ∷ []) (component_step place)
      (leads place WantName (LineOver (Component name)) _ (Word name) [] (name_step (λ n. LineOver (Component n)) name (All-head IsShort name [] is.named)) (ends_here place _));
  is_whole = refl;
}
reaches_line place (Put node constant) is = record {
  state = LineOver (Put node constant);
  led =
      leads place LineStart WantPutNode _ (word key.Put) (Word node ∷ const_token constant ∷ []) (put_step place is.allowed)
      (leads place WantPutNode (WantPutConst node) _ (Word node) (const_token constant ∷ []) (name_step WantPutConst node (All-head IsShort node [] is.named))
      (leads place (WantPutConst node) (LineOver (Put node constant)) _ (const_token constant) [] (const_step place node constant) (ends_here place _)));
  is_whole = refl;
}
reaches_line place (Get node) is = record {
  state = LineOver (Get node);
  led =
      leads place LineStart WantGetNode _ (word key.Get) (Word node ∷ []) (get_step place is.allowed)
      (leads place WantGetNode (LineOver (Get node)) _ (Word node) [] (name_step (λ n. LineOver (Get n)) node (All-head IsShort node [] is.named)) (ends_here place _));
  is_whole = refl;
}
