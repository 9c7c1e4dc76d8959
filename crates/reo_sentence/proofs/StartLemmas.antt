-- Lines, by the words with which they begin.
use Rattle.std.proofs.Common.{◌≡◌, ◌≢◌, ℕ, true, false, List, [], ◌∷◌, length, Some, None, refl, sym, subst}
use Rattle.std.proofs.lemmas.Bool.{false≢true}
use Rattle.std.proofs.lemmas.Option.{none-some, same_Some}
use Rattle.reo_value.specs.declared.op.Way.{Way}
use Rattle.reo_value.specs.declared.op.Way.TheVariants as way
use Rattle.reo_grammar.specs.declared.key.Key.{Key}
use Rattle.reo_grammar.specs.declared.key.Key.TheVariants as key
use Rattle.reo_grammar.specs.Key.{key_of, spelled}
use Rattle.reo_grammar.specs.Token.{Token, word}
use Rattle.reo_grammar.specs.Lines.{Place, Circuit, Scripts, OfCircuit, is_allowed, way_key}
use Rattle.reo_grammar.specs.Lines as lines
use Rattle.reo_grammar.specs.Machine.Run.{run, IsStuck}
use Rattle.reo_grammar.specs.Machine.Lines.{ChannelWord, SyncWord, LossyWord, DrainWord, FifoWord, FilterWord, TransformWord, State, LineStart, WantNode, WantA, WantName, WantPutNode, WantGetNode, channel_key, circuit_word, line_word, step, whole}
use Rattle.reo_grammar.proofs.RunLemmas.{run-step}
use Rattle.reo_grammar.proofs.ReadLine.{circuit_step, component_step, ends_here}
use Rattle.reo_sentence.specs.declared.cursor.Cursor.{Cursor}
use Rattle.reo_sentence.specs.declared.stop.Stop.{Stop}
use Rattle.reo_sentence.specs.declared.stop.Stop.TheVariants as stop
use Rattle.reo_sentence.specs.declared.said.Sentence as rust
use Rattle.reo_sentence.specs.Limits.{is_wide, is_long}
use Rattle.reo_sentence.specs.Said.{said, numbered_sentence, NamesStandIn}
use Rattle.reo_sentence.specs.Reading.{left, next_key, Takes, Advances, Goes, Reads}
use Rattle.reo_sentence.specs.LineReading.{Finishes, ReadsLine, StopsLine, StopsStart, word_of, is_port_key}
use Rattle.reo_sentence.proofs.ReadingLemmas.{Goes-left, Goes-one, Halts-behind, Reads-behind, key_taken}

-- the step by a word, in each place where it may come
abbrev pub Begins : Key → State → Type 0
Begins k next = (place : Place) → is_allowed place OfCircuit ≡ true → step place LineStart (word k) ≡ Some next

pub begins_port : (way : Way) → Begins (way_key way) (WantNode way)
unfolding key_of
begins_port way.Put place here = circuit_step place (spelled key.In) here
begins_port way.Get place here = circuit_step place (spelled key.Out) here

pub begins_component : (place : Place) → step place LineStart (word key.Component) ≡ Some WantName
begins_component place = component_step place

pub begins_channel : (channel : ChannelWord) → Begins (channel_key channel) (WantA channel)
unfolding key_of
begins_channel SyncWord place here = circuit_step place (spelled key.Sync) here
begins_channel LossyWord place here = circuit_step place (spelled key.Lossy) here
begins_channel DrainWord place here = circuit_step place (spelled key.Drain) here
begins_channel FifoWord place here = circuit_step place (spelled key.Fifo) here
begins_channel FilterWord place here = circuit_step place (spelled key.Filter) here
begins_channel TransformWord place here = circuit_step place (spelled key.Transform) here

pub begins_put : step Scripts LineStart (word key.Put) ≡ Some WantPutNode
unfolding key_of
begins_put = refl

pub begins_get : step Scripts LineStart (word key.Get) ≡ Some WantGetNode
unfolding key_of
begins_get = refl

-- what was read behind the first word
pub starts : (place : Place) (next : State) (token : Token) (old middle new : Cursor) (known texts : List (List ℕ)) (sentence : rust.Sentence) → Takes old middle token
    → step place LineStart token ≡ Some next → Finishes next middle new known texts sentence → ReadsLine place old new known texts sentence
starts place next token old middle new known texts sentence takes is finishes = record {
  tree = finishes.tree;
  front = token ∷ finishes.front;
  state = finishes.state;
  led = run-step (step place) LineStart next token finishes.front (Some finishes.state) is (finishes.led place);
  is_whole = finishes.is_whole;
  reads =
      subst (λ l. Reads old new known texts (token ∷ finishes.front) (is_wide (lines.sentence_of finishes.tree)) (is_long (lines.sentence_of finishes.tree)) (numbered_sentence (lines.sentence_of finishes.tree)) (said l sentence)) takes.line
      (Reads-behind old middle new known texts token finishes.front _ _ _ (said middle.line.now sentence) takes finishes.reads);
  names = subst (λ l. NamesStandIn (length l) sentence) takes.line finishes.names;
  over = finishes.over;
}

pub stops_start : (place : Place) (next : State) (token : Token) (old middle new : Cursor) (e : Stop) → Takes old middle token → step place LineStart token ≡ Some next
    → StopsLine next middle new e → StopsStart place old new e
stops_start place next token old middle new stop.NoMemory takes is stops = tt
stops_start place next token old middle new stop.Syntax takes is stops =
    Halts-behind (step place) whole LineStart next old middle new (token ∷ []) (Goes-one old middle token takes)
    (run-step (step place) LineStart next token [] (Some next) is (ends_here place next)) (stops place)

-- the machine is stuck at the first word
pub stops_at_start : (place : Place) (old new : Cursor) (e : Stop) → e ≡ stop.Syntax → Goes old new [] → line_word place (next_key (left old)) ≡ None → StopsStart place old new e
unfolding run
stops_at_start place old new e is goes none =
    subst (StopsStart place old new) (sym is)
    (record { front = []; goes = goes; state = LineStart; led = refl; stuck = subst (IsStuck (step place) whole LineStart) (Goes-left old new [] goes) (by (left old) none) })
  where
    by : (tokens : List Token) → line_word place (next_key tokens) ≡ None → IsStuck (step place) whole LineStart tokens
    by [] none = refl
    by (token ∷ tokens) none = none

no_circuit : (k : Key) → is_port_key k ≡ false → word_of k ≡ None → circuit_word k ≡ None
no_circuit key.In other none = absurd (false≢true (sym other))
no_circuit key.Out other none = absurd (false≢true (sym other))
no_circuit key.Component other none = absurd (false≢true (sym other))
no_circuit key.Sync other none = absurd (none-some _ (sym none))
no_circuit key.Lossy other none = absurd (none-some _ (sym none))
no_circuit key.Drain other none = absurd (none-some _ (sym none))
no_circuit key.Fifo other none = absurd (none-some _ (sym none))
no_circuit key.Filter other none = absurd (none-some _ (sym none))
no_circuit key.Transform other none = absurd (none-some _ (sym none))
no_circuit k other none = refl

pub stuck_circuit : (place : Place) (k : Key) → is_allowed place OfCircuit ≡ true → is_port_key k ≡ false → word_of k ≡ None → line_word place k ≡ None
stuck_circuit lines.First k here other none = no_circuit k other none
stuck_circuit Circuit k here other none = no_circuit k other none
stuck_circuit Scripts k here other none = absurd (false≢true here)

pub stuck_script : (k : Key) → k ≢ key.Put → k ≢ key.Get → k ≢ key.Component → line_word Scripts k ≡ None
stuck_script key.Put a b c = absurd (a refl)
stuck_script key.Get a b c = absurd (b refl)
stuck_script key.Component a b c = absurd (c refl)
stuck_script k a b c = refl

pub not_port : (k : Key) → k ≢ key.In → k ≢ key.Out → k ≢ key.Component → is_port_key k ≡ false
not_port key.In a b c = absurd (a refl)
not_port key.Out a b c = absurd (b refl)
not_port key.Component a b c = absurd (c refl)
not_port k a b c = refl

-- the word of a channel was taken
pub channel_taken : (old new : Cursor) (k : Key) (channel : ChannelWord) → word_of k ≡ Some channel → k ≡ next_key (left old) → Advances old new → Takes old new (word (channel_key channel))
channel_taken old new key.Sync channel is seen advances = subst (λ w. Takes old new (word (channel_key w))) (same_Some SyncWord channel is) (key_taken old new key.Sync seen advances)
channel_taken old new key.Lossy channel is seen advances = subst (λ w. Takes old new (word (channel_key w))) (same_Some LossyWord channel is) (key_taken old new key.Lossy seen advances)
channel_taken old new key.Drain channel is seen advances = subst (λ w. Takes old new (word (channel_key w))) (same_Some DrainWord channel is) (key_taken old new key.Drain seen advances)
channel_taken old new key.Fifo channel is seen advances = subst (λ w. Takes old new (word (channel_key w))) (same_Some FifoWord channel is) (key_taken old new key.Fifo seen advances)
channel_taken old new key.Filter channel is seen advances = subst (λ w. Takes old new (word (channel_key w))) (same_Some FilterWord channel is) (key_taken old new key.Filter seen advances)
channel_taken old new key.Transform channel is seen advances = subst (λ w. Takes old new (word (channel_key w))) (same_Some TransformWord channel is) (key_taken old new key.Transform seen advances)
channel_taken old new k channel is seen advances = absurd (none-some channel is)
