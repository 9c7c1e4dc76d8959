-- What a reader of lines has taken.
use Rattle.std.specs.Prelude.{◌≡◌, ℕ, ◌≤◌, nat_le, if◌then◌else◌, Bool, true, false, List, [], ◌∷◌, length, Option, Some, None}
use Rattle.reo_net.specs.declared.kind.Kind as net
use Rattle.reo_grammar.specs.declared.key.Key.{Key}
use Rattle.reo_grammar.specs.declared.key.Key.TheVariants as key
use Rattle.reo_grammar.specs.Token.{Token, Word, Number, Text, Sign}
use Rattle.reo_grammar.specs.Lines.{KindTree, kind_of, LineTree, sentence_of, Place, Circuit, Scripts}
use Rattle.reo_grammar.specs.Lines as lines
use Rattle.reo_grammar.specs.Machine.Run.{run}
use Rattle.reo_grammar.specs.Machine.Lines.{ChannelWord, SyncWord, LossyWord, DrainWord, FifoWord, FilterWord, TransformWord, KindState, State, LineStart, begun, kind_step, whole_kind, step, whole}
use Rattle.reo_sentence.specs.declared.cursor.Cursor.{Cursor}
use Rattle.reo_sentence.specs.declared.stop.Stop.{Stop}
use Rattle.reo_sentence.specs.declared.said.Sentence as rust
use Rattle.reo_sentence.specs.declared.sentence.ChannelWord as rust_word
use Rattle.reo_sentence.specs.declared.sentence.ChannelWord.TheVariants as word
use Rattle.reo_sentence.specs.declared.sentence.Place as rust_place
use Rattle.reo_sentence.specs.declared.sentence.Place.TheVariants as place
use Rattle.reo_sentence.specs.Limits.{is_wide, is_long, is_wide_kind, is_long_kind}
use Rattle.reo_sentence.specs.Said.{numbered_kind, numbered_sentence, said, NamesStandIn}
use Rattle.reo_sentence.specs.Reading.{left, Takes, Reads, StopsAt}

abbrev pub place_of : rust_place.Place → Place
place_of place.First = lines.First
place_of place.Circuit = Circuit
place_of place.Scripts = Scripts

abbrev pub channel_word : rust_word.ChannelWord → ChannelWord
channel_word word.Sync = SyncWord
channel_word word.Lossy = LossyWord
channel_word word.Drain = DrainWord
channel_word word.Fifo = FifoWord
channel_word word.Filter = FilterWord
channel_word word.Transform = TransformWord

abbrev pub name_of : Token → Option (List ℕ)
name_of (Word bytes) = if nat_le (length bytes) 64 then Some bytes else None
name_of (Number value) = None
name_of (Text value) = None
name_of (Sign symbol) = None

-- the next token, where it is a name
abbrev pub next_name : List Token → Option (List ℕ)
next_name [] = None
next_name (token ∷ tokens) = name_of token

pub record TakesName (old new : Cursor) (name : List ℕ) : Type 0 where
  pub takes : Takes old new (Word name)
  pub short : length name ≤ 64

-- no step goes on with what comes next
abbrev pub NoStep : {S : Type 0} → (S → Token → Option S) → S → List Token → Type 0
NoStep step state [] = Unit {0}
NoStep step state (token ∷ tokens) = step state token ≡ None

-- what stands behind a channel's nodes was read
pub record ReadsKind (channel : ChannelWord) (old new : Cursor) (known texts : List (List ℕ)) (kind : net.Kind) : Type 0 where
  pub tree : KindTree
  pub front : List Token
  pub state : KindState
  pub led : run kind_step (Some (begun channel)) front ≡ Some state
  pub is_whole : whole_kind state ≡ Some tree
  pub reads : Reads old new known texts front (is_wide_kind (kind_of tree)) (is_long_kind (kind_of tree)) (numbered_kind (kind_of tree)) kind
  pub ended : NoStep kind_step state (left new)

-- the line was read from this state on to its end
pub record Finishes (start : State) (old new : Cursor) (known texts : List (List ℕ)) (sentence : rust.Sentence) : Type 0 where
  pub tree : LineTree
  pub front : List Token
  pub state : State
  pub led : (place : Place) → run (step place) (Some start) front ≡ Some state
  pub is_whole : whole state ≡ Some tree
  pub reads : Reads old new known texts front (is_wide (sentence_of tree)) (is_long (sentence_of tree)) (numbered_sentence (sentence_of tree)) (said old.line.now sentence)
  pub names : NamesStandIn (length old.line.now) sentence
  pub over : left new ≡ []

-- the reader stops where the machine is stuck, wherever the line stands
abbrev pub StopsLine : State → Cursor → Cursor → Stop → Type 0
StopsLine start old new stop = (place : Place) → StopsAt (step place) whole start old new stop

abbrev pub StopsKind : ChannelWord → Cursor → Cursor → Stop → Type 0
StopsKind channel old new stop = StopsAt kind_step whole_kind (begun channel) old new stop

-- a whole line that may stand in the place was read
pub record ReadsLine (place : Place) (old new : Cursor) (known texts : List (List ℕ)) (sentence : rust.Sentence) : Type 0 where
  pub tree : LineTree
  pub front : List Token
  pub state : State
  pub led : run (step place) (Some LineStart) front ≡ Some state
  pub is_whole : whole state ≡ Some tree
  pub reads : Reads old new known texts front (is_wide (sentence_of tree)) (is_long (sentence_of tree)) (numbered_sentence (sentence_of tree)) (said old.line.now sentence)
  pub names : NamesStandIn (length old.line.now) sentence
  pub over : left new ≡ []

abbrev pub StopsStart : Place → Cursor → Cursor → Stop → Type 0
StopsStart place old new stop = StopsAt (step place) whole LineStart old new stop

abbrev pub word_of : Key → Option ChannelWord
word_of key.Sync = Some SyncWord
word_of key.Lossy = Some LossyWord
word_of key.Drain = Some DrainWord
word_of key.Fifo = Some FifoWord
word_of key.Filter = Some FilterWord
word_of key.Transform = Some TransformWord
word_of key = None

-- the words with which a line of the circuit begins that is no channel's
abbrev pub is_port_key : Key → Bool
is_port_key key.In = true
is_port_key key.Out = true
is_port_key key.Component = true
is_port_key key = false
