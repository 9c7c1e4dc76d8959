-- Lines, read part by part.
use Rattle.std.proofs.Common.{◌≡◌, ◌≢◌, ℕ, nat_le, Bool, true, false, if◌then◌else◌, List, [], ◌∷◌, length, Some, None, refl, sym, ap, subst, ◌∙◌}
use Rattle.std.specs.Option.{option_map}
use Rattle.std.proofs.lemmas.Option.{none-some}
use Rattle.reo_value.specs.declared.op.Way.{Way}
use Rattle.reo_value.specs.declared.value.Value.{Value}
use Rattle.reo_net.specs.declared.kind.Kind as net
use Rattle.reo_grammar.specs.Token.{Token, Word, Number, Text, Sign, Const, const_token}
use Rattle.reo_grammar.specs.Lines.{LineTree, Port, Channel, Component, Put, Get, Place, kind_of}
use Rattle.reo_grammar.specs.Machine.Run.{run, IsStuck}
use Rattle.reo_grammar.specs.Machine.Lines.{ChannelWord, KindState, State, WantNode, WantA, WantB, Behind, WantName, WantPutNode, WantPutConst, WantGetNode, LineOver, with_name, begun, kind_step, whole_kind, step, whole}
use Rattle.reo_grammar.proofs.RunLemmas.{run-map}
use Rattle.reo_grammar.proofs.ReadLine.{name_step, const_step, leads, ends_here}
use Rattle.reo_sentence.specs.declared.cursor.Cursor.{Cursor}
use Rattle.reo_sentence.specs.declared.stop.Stop.{Stop}
use Rattle.reo_sentence.specs.declared.stop.Stop.TheVariants as stop
use Rattle.reo_sentence.specs.declared.said.Name.{Name}
use Rattle.reo_sentence.specs.declared.said.Sentence.TheVariants as sentence
use Rattle.reo_sentence.specs.Said.{numbered_kind, PortSaid, ChannelSaid, ComponentSaid, PutSaid, GetSaid, name_at, StandsIn}
use Rattle.reo_sentence.specs.Numbered.{numbered_const}
use Rattle.reo_sentence.specs.Reading.{left, next_const, Goes, ReadsConst, Halts, Refuses}
use Rattle.reo_sentence.specs.LineReading.{name_of, next_name, TakesName, NoStep, ReadsKind, Finishes, StopsLine, StopsKind}
use Rattle.reo_sentence.proofs.ReadingLemmas.{Goes-left, Goes-one, Goes-here, Halts-behind, Reads-then_as, Reads-behind}
use Rattle.reo_sentence.proofs.AtomLemmas.{plain_reads}

-- Where the reader stops.
pub stops_line : (start : State) (old new : Cursor) (e : Stop) → e ≡ stop.Syntax → Goes old new [] → ((place : Place) → IsStuck (step place) whole start (left old)) → StopsLine start old new e
unfolding run
stops_line start old new e is goes stuck =
    subst (StopsLine start old new) (sym is)
    (λ place. record { front = []; goes = goes; state = start; led = refl; stuck = subst (IsStuck (step place) whole start) (Goes-left old new [] goes) (stuck place) })

pub stops_line_after : (start next : State) (old middle new : Cursor) (front : List Token) (e : Stop) → Goes old middle front → ((place : Place) → run (step place) (Some start) front ≡ Some next)
    → StopsLine next middle new e → StopsLine start old new e
stops_line_after start next old middle new front stop.NoMemory goes led stops place = tt
stops_line_after start next old middle new front stop.Syntax goes led stops place = Halts-behind (step place) whole start next old middle new front goes (led place) (stops place)

pub stops_line_refused : (start : State) (old new : Cursor) (asked : Type 0) (e : Stop) → Refuses old new asked e → (asked → (place : Place) → IsStuck (step place) whole start (left old)) → StopsLine start old new e
stops_line_refused start old new asked stop.Syntax refuses stuck = stops_line start old new stop.Syntax refl refuses.0 (stuck refuses.1)
stops_line_refused start old new asked stop.NoMemory refuses stuck = λ place. tt

-- a state in which a name has to come
pub record WantsName (start : State) (next : List ℕ → State) : Type 0 where
  pub takes : (place : Place) (token : Token) → step place start token ≡ with_name next token
  pub unfinished : whole start ≡ None

pub wants_node : (way : Way) → WantsName (WantNode way) (λ node. LineOver (Port way node))
wants_node way = record { takes = λ place token. refl; unfinished = refl }

pub wants_a : (channel : ChannelWord) → WantsName (WantA channel) (WantB channel)
wants_a channel = record { takes = λ place token. refl; unfinished = refl }

pub wants_b : (channel : ChannelWord) (a : List ℕ) → WantsName (WantB channel a) (λ b. Behind (begun channel) a b)
wants_b channel a = record { takes = λ place token. refl; unfinished = refl }

pub wants_name : WantsName WantName (λ name. LineOver (Component name))
wants_name = record { takes = λ place token. refl; unfinished = refl }

pub wants_put_node : WantsName WantPutNode WantPutConst
wants_put_node = record { takes = λ place token. refl; unfinished = refl }

pub wants_get_node : WantsName WantGetNode (λ node. LineOver (Get node))
wants_get_node = record { takes = λ place token. refl; unfinished = refl }

no_name : (next : List ℕ → State) (token : Token) → name_of token ≡ None → with_name next token ≡ None
no_name next (Word bytes) none = by (nat_le (length bytes) 64) none
  where
    by : (short : Bool) → (if short then Some bytes else None) ≡ None → (if short then Some (next bytes) else None) ≡ None
    by true some = absurd (none-some bytes (sym some))
    by false none = refl
no_name next (Number value) none = refl
no_name next (Text value) none = refl
no_name next (Sign symbol) none = refl

pub stuck_name : (start : State) (next : List ℕ → State) → WantsName start next → (tokens : List Token) → next_name tokens ≡ None → (place : Place) → IsStuck (step place) whole start tokens
stuck_name start next wants [] none place = wants.unfinished
stuck_name start next wants (token ∷ tokens) none place = wants.takes place token ∙ no_name next token none

pub led_name : (start : State) (next : List ℕ → State) → WantsName start next → (old new : Cursor) (name : List ℕ) → TakesName old new name → (place : Place)
    → run (step place) (Some start) (Word name ∷ []) ≡ Some (next name)
led_name start next wants old new name takes place =
    leads place start (next name) (next name) (Word name) [] (wants.takes place (Word name) ∙ name_step next name takes.short) (ends_here place (next name))

pub stops_name : (start : State) (next : List ℕ → State) → WantsName start next → (old new : Cursor) (e : Stop) → e ≡ stop.Syntax → Goes old new [] → next_name (left old) ≡ None → StopsLine start old new e
stops_name start next wants old new e is goes none = stops_line start old new e is goes (stuck_name start next wants (left old) none)

pub stops_behind_name : (start : State) (next : List ℕ → State) → WantsName start next → (old middle new : Cursor) (name : List ℕ) (e : Stop) → TakesName old middle name
    → StopsLine (next name) middle new e → StopsLine start old new e
stops_behind_name start next wants old middle new name e takes stops =
    stops_line_after start (next name) old middle new (Word name ∷ []) e (Goes-one old middle (Word name) takes.takes) (led_name start next wants old middle name takes) stops

stuck_some : (start : State) (tokens : List Token) → tokens ≢ [] → ((place : Place) → NoStep (step place) start tokens) → (place : Place) → IsStuck (step place) whole start tokens
stuck_some start [] some none place = absurd (some refl)
stuck_some start (token ∷ tokens) some none place = none place

over_none : (tree : LineTree) (tokens : List Token) (place : Place) → NoStep (step place) (LineOver tree) tokens
over_none tree [] place = tt
over_none tree (token ∷ tokens) place = refl

-- more comes behind a line
pub stops_over : (tree : LineTree) (cursor : Cursor) (e : Stop) → e ≡ stop.Syntax → left cursor ≢ [] → StopsLine (LineOver tree) cursor cursor e
stops_over tree cursor e is some = stops_line (LineOver tree) cursor cursor e is (Goes-here cursor) (stuck_some (LineOver tree) (left cursor) some (over_none tree (left cursor)))

behind_none : (state : KindState) (a b : List ℕ) (tokens : List Token) → NoStep kind_step state tokens → (place : Place) → NoStep (step place) (Behind state a b) tokens
behind_none state a b [] none place = tt
behind_none state a b (token ∷ tokens) none place = ap (option_map (λ n. Behind n a b)) none

pub stops_behind_kind : (state : KindState) (a b : List ℕ) (cursor : Cursor) (e : Stop) → e ≡ stop.Syntax → NoStep kind_step state (left cursor) → left cursor ≢ []
    → StopsLine (Behind state a b) cursor cursor e
stops_behind_kind state a b cursor e is none some =
    stops_line (Behind state a b) cursor cursor e is (Goes-here cursor) (stuck_some (Behind state a b) (left cursor) some (behind_none state a b (left cursor) none))

pub stuck_value : (node : List ℕ) (tokens : List Token) → next_const tokens ≡ None → (place : Place) → IsStuck (step place) whole (WantPutConst node) tokens
stuck_value node [] none place = refl
stuck_value node (token ∷ tokens) none place = ap (option_map _) none

pub led_value : (node : List ℕ) (constant : Const) (place : Place) → run (step place) (Some (WantPutConst node)) (const_token constant ∷ []) ≡ Some (LineOver (Put node constant))
led_value node constant place = leads place (WantPutConst node) (LineOver (Put node constant)) (LineOver (Put node constant)) (const_token constant) [] (const_step place node constant) (ends_here place _)

-- what stops behind a channel's nodes stops in the line
Halts-kind : (a b : List ℕ) (place : Place) (start : KindState) (old new : Cursor) → Halts kind_step whole_kind start old new → Halts (step place) whole (Behind start a b) old new
Halts-kind a b place start old new halts = record {
  front = halts.front;
  goes = halts.goes;
  state = Behind halts.state a b;
  led = run-map (λ k. Behind k a b) kind_step (step place) (λ s token. refl) (Some start) halts.front ∙ ap (option_map (λ k. Behind k a b)) halts.led;
  stuck = by (left new) halts.stuck;
}
  where
    by : (tokens : List Token) → IsStuck kind_step whole_kind halts.state tokens → IsStuck (step place) whole (Behind halts.state a b) tokens
    by [] stuck = ap (option_map (λ k. Channel k a b)) stuck
    by (token ∷ tokens) stuck = ap (option_map (λ n. Behind n a b)) stuck

pub stops_kind : (channel : ChannelWord) (a b : List ℕ) (old new : Cursor) (e : Stop) → StopsKind channel old new e → StopsLine (Behind (begun channel) a b) old new e
stops_kind channel a b old new stop.Syntax halts place = Halts-kind a b place (begun channel) old new halts
stops_kind channel a b old new stop.NoMemory halts place = tt

-- What was read to its end.
pub finishes_port : (way : Way) (old new : Cursor) (known : List (List ℕ)) (node : Name) → TakesName old new (name_at old.line.now node) → StandsIn (length old.line.now) node → left new ≡ []
    → Finishes (WantNode way) old new known known (sentence.Port way node)
finishes_port way old new known node takes stands over = record {
  tree = Port way (name_at old.line.now node);
  front = Word (name_at old.line.now node) ∷ [];
  state = LineOver (Port way (name_at old.line.now node));
  led = led_name (WantNode way) (λ n. LineOver (Port way n)) (wants_node way) old new (name_at old.line.now node) takes;
  is_whole = refl;
  reads = plain_reads old new known (Word (name_at old.line.now node)) (PortSaid way (name_at old.line.now node)) takes.takes;
  names = stands;
  over = over;
}

pub finishes_component : (old new : Cursor) (known : List (List ℕ)) (name : Name) → TakesName old new (name_at old.line.now name) → StandsIn (length old.line.now) name → left new ≡ []
    → Finishes WantName old new known known (sentence.Component name)
finishes_component old new known name takes stands over = record {
  tree = Component (name_at old.line.now name);
  front = Word (name_at old.line.now name) ∷ [];
  state = LineOver (Component (name_at old.line.now name));
  led = led_name WantName (λ n. LineOver (Component n)) wants_name old new (name_at old.line.now name) takes;
  is_whole = refl;
  reads = plain_reads old new known (Word (name_at old.line.now name)) (ComponentSaid (name_at old.line.now name)) takes.takes;
  names = stands;
  over = over;
}

pub finishes_get : (old new : Cursor) (known : List (List ℕ)) (node : Name) → TakesName old new (name_at old.line.now node) → StandsIn (length old.line.now) node → left new ≡ []
    → Finishes WantGetNode old new known known (sentence.Get node)
finishes_get old new known node takes stands over = record {
  tree = Get (name_at old.line.now node);
  front = Word (name_at old.line.now node) ∷ [];
  state = LineOver (Get (name_at old.line.now node));
  led = led_name WantGetNode (λ n. LineOver (Get n)) wants_get_node old new (name_at old.line.now node) takes;
  is_whole = refl;
  reads = plain_reads old new known (Word (name_at old.line.now node)) (GetSaid (name_at old.line.now node)) takes.takes;
  names = stands;
  over = over;
}

pub finishes_put : (old middle new : Cursor) (known texts : List (List ℕ)) (node : Name) (value : Value) → TakesName old middle (name_at old.line.now node) → StandsIn (length old.line.now) node → ReadsConst middle new known texts value
    → left new ≡ [] → Finishes WantPutNode old new known texts (sentence.Put node value)
finishes_put old middle new known texts node value takes stands reads over = record {
  tree = Put (name_at old.line.now node) reads.constant;
  front = Word (name_at old.line.now node) ∷ const_token reads.constant ∷ [];
  state = LineOver (Put (name_at old.line.now node) reads.constant);
  led = λ place.
      leads place WantPutNode (WantPutConst (name_at old.line.now node)) (LineOver (Put (name_at old.line.now node) reads.constant)) (Word (name_at old.line.now node)) (const_token reads.constant ∷ []) (name_step WantPutConst (name_at old.line.now node) takes.short)
      (led_value (name_at old.line.now node) reads.constant place);
  is_whole = refl;
  reads =
      Reads-behind old middle new known texts (Word (name_at old.line.now node)) (const_token reads.constant ∷ []) _ _ _ (PutSaid (name_at old.line.now node) value) takes.takes
      (Reads-then_as middle new known texts _ _ _ (numbered_const reads.constant) (PutSaid (name_at old.line.now node)) value reads.reads);
  names = stands;
  over = over;
}

pub finishes_channel : (channel : ChannelWord) (old first second new : Cursor) (known texts : List (List ℕ)) (made : net.Kind) (a b : Name) → TakesName old first (name_at old.line.now a)
    → TakesName first second (name_at first.line.now b) → StandsIn (length old.line.now) a → StandsIn (length first.line.now) b → ReadsKind channel second new known texts made → left new ≡ []
    → Finishes (WantA channel) old new known texts (sentence.Channel made a b)
finishes_channel channel old first second new known texts made a b takes_a takes_b stands_a stands_b kinds over =
    let takes : TakesName first second (name_at old.line.now b) = subst (λ l. TakesName first second (name_at l b)) takes_a.takes.line takes_b in
    record {
      tree = Channel kinds.tree (name_at old.line.now a) (name_at old.line.now b);
      front = Word (name_at old.line.now a) ∷ Word (name_at old.line.now b) ∷ kinds.front;
      state = Behind kinds.state (name_at old.line.now a) (name_at old.line.now b);
      led = λ place.
          leads place (WantA channel) (WantB channel (name_at old.line.now a)) _ (Word (name_at old.line.now a)) (Word (name_at old.line.now b) ∷ kinds.front) (name_step (WantB channel) (name_at old.line.now a) takes_a.short)
          (leads place (WantB channel (name_at old.line.now a)) (Behind (begun channel) (name_at old.line.now a) (name_at old.line.now b)) _ (Word (name_at old.line.now b)) kinds.front (name_step (λ n. Behind (begun channel) (name_at old.line.now a) n) (name_at old.line.now b) takes.short)
          (run-map (λ k. Behind k (name_at old.line.now a) (name_at old.line.now b)) kind_step (step place) (λ s token. refl) (Some (begun channel)) kinds.front ∙ ap (option_map (λ k. Behind k (name_at old.line.now a) (name_at old.line.now b))) kinds.led));
      is_whole = ap (option_map (λ k. Channel k (name_at old.line.now a) (name_at old.line.now b))) kinds.is_whole;
      reads =
          Reads-behind old first new known texts (Word (name_at old.line.now a)) (Word (name_at old.line.now b) ∷ kinds.front) _ _ _ (ChannelSaid made (name_at old.line.now a) (name_at old.line.now b)) takes_a.takes
          (Reads-behind first second new known texts (Word (name_at old.line.now b)) kinds.front _ _ _ (ChannelSaid made (name_at old.line.now a) (name_at old.line.now b)) takes.takes
          (Reads-then_as second new known texts kinds.front _ _ (numbered_kind (kind_of kinds.tree)) (λ k. ChannelSaid k (name_at old.line.now a) (name_at old.line.now b)) made kinds.reads));
      names = (stands_a, subst (λ l. StandsIn (length l) b) takes_a.takes.line stands_b);
      over = over;
    }

-- what was read behind the nodes leads on in the line
pub led_kind : (channel : ChannelWord) (old new : Cursor) (known texts : List (List ℕ)) (made : net.Kind) (a b : List ℕ) (reads : ReadsKind channel old new known texts made) (place : Place)
    → run (step place) (Some (Behind (begun channel) a b)) reads.front ≡ Some (Behind reads.state a b)
led_kind channel old new known texts made a b reads place =
    run-map (λ k. Behind k a b) kind_step (step place) (λ s token. refl) (Some (begun channel)) reads.front ∙ ap (option_map (λ k. Behind k a b)) reads.led
