-- Tokens say one line or go wrong first at one place, and never both.
use Rattle.std.proofs.Common.{◌≡◌, ◌⊎◌, inl, inr, List, All, [], ◌∷◌, ◌++◌, Option, Some, None, IfSome, refl, sym, ap, subst, ◌∙◌, append_assoc, append-nil}
use Rattle.std.proofs.lemmas.List.Elements.{All-nil}
use Rattle.std.proofs.lemmas.Option.{none-some, same_Some}
use Rattle.reo_grammar.specs.Token.{Token}
use Rattle.reo_grammar.specs.Lines.{LineTree, is_allowed, Place, First, Circuit, Scripts, Sentence, sentence_of, IsLine}
use Rattle.reo_grammar.specs.Wrong.{CanGoOn, IsFirstWrong}
use Rattle.reo_grammar.specs.Laws.{SayOne, SayOrGoWrong, SayOrGoWrongAlone, GoWrongOnce}
use Rattle.reo_grammar.specs.Machine.Run.{run, IsStuck, GetsStuck}
use Rattle.reo_grammar.specs.Machine.Lines.{State, LineStart, line_before, step, whole, go}
use Rattle.reo_grammar.proofs.RunLemmas.{run-append, run-adds, run-keeps, run-front, run-stops, IfSome-of}
use Rattle.reo_grammar.proofs.LineMachine.{IsShort, IsState, step_follows, finished, line_tail, line_ends, finished_lawful, IsWhole, whole_is}
use Rattle.reo_grammar.proofs.ReadLine.{Reaches, reaches_line}

IfSome-with : {A : Type 0} (P Q : A → Type 0) (o : Option A) → ((a : A) → P a → Q a) → IfSome o P → IfSome o Q
IfSome-with P Q None f h = h
IfSome-with P Q (Some a) f h = f a h

-- the tokens that led to a state are those before it
pub led-before : (place : Place) (tokens : List Token) (state : State) → go place tokens ≡ Some state → line_before state ≡ tokens
led-before place tokens state led =
    run-adds (step place) line_before (λ s token. IfSome-with _ _ (step place s token) (λ next follows. follows.adds) (step_follows place s token)) LineStart state tokens led

starts : (place : Place) → IsState place LineStart
starts First = record { allowed = refl; named = All-nil IsShort }
starts Circuit = record { allowed = refl; named = All-nil IsShort }
starts Scripts = record { allowed = refl; named = All-nil IsShort }

led-state : (place : Place) (tokens : List Token) (state : State) → go place tokens ≡ Some state → IsState place state
led-state place tokens state led =
    run-keeps (step place) (IsState place) (λ s token. IfSome-with _ _ (step place s token) (λ next follows. follows.keeps) (step_follows place s token)) LineStart state tokens led (starts place)

can_go_on : (place : Place) (tokens : List Token) (state : State) → go place tokens ≡ Some state → CanGoOn place tokens
can_go_on place tokens state led =
    let lawful = finished_lawful place state (led-state place tokens state led) in
    record {
      more = line_tail state;
      sentence = sentence_of (finished state);
      says = record {
        tree = finished state;
        spelled = sym (line_ends state ∙ ap (λ ts. ts ++ line_tail state) (led-before place tokens state led));
        meant = refl;
        allowed = lawful.allowed;
        named = lawful.named;
      };
    }

-- a line is reached by its tokens
pub reached : (place : Place) (tokens : List Token) (sentence : Sentence) (says : IsLine place tokens sentence) → Reaches place tokens says.tree
reached place tokens sentence says =
    subst (λ ts. Reaches place ts says.tree) (sym says.spelled) (reaches_line place says.tree (record { allowed = says.allowed; named = says.named }))

leads_somewhere : (place : Place) (front : List Token) → CanGoOn place front → (state : State) × (go place front ≡ Some state)
leads_somewhere place front on =
    let there = reached place (front ++ on.more) on.sentence on.says in
    run-front (step place) (Some LineStart) front on.more there.state there.led

-- tokens that led to a whole line are that line
pub says_whole : (place : Place) (tokens : List Token) (state : State) (tree : LineTree) → go place tokens ≡ Some state → whole state ≡ Some tree → IsLine place tokens (sentence_of tree)
says_whole place tokens state tree led is_whole =
    let is : IsWhole state tree = IfSome-of (IsWhole state) (whole state) tree is_whole (whole_is state) in
    let lawful = led-state place tokens state led in
    record {
      tree = tree;
      spelled = sym (is.spelled ∙ led-before place tokens state led);
      meant = refl;
      allowed = ap (is_allowed place) is.section ∙ lawful.allowed;
      named = subst (All IsShort) (sym is.names) lawful.named;
    }

pub say_one : SayOne
say_one place tokens one other says_one says_other =
    let first = reached place tokens one says_one in
    let second = reached place tokens other says_other in
    let state : first.state ≡ second.state = same_Some first.state second.state (sym first.led ∙ second.led) in
    let tree : says_one.tree ≡ says_other.tree = same_Some says_one.tree says_other.tree (sym first.is_whole ∙ ap whole state ∙ second.is_whole) in
    says_one.meant ∙ ap sentence_of tree ∙ sym says_other.meant

-- no step, no line that goes on
no_step : (place : Place) (front : List Token) (state : State) (token : Token) → go place front ≡ Some state → step place state token ≡ None → CanGoOn place (front ++ token ∷ []) → ⊥
unfolding run
no_step place front state token led stuck on =
    let there = leads_somewhere place (front ++ token ∷ []) on in
    none-some there.0
    (sym (run-append (step place) (Some LineStart) front (token ∷ []) ∙ ap (λ s. run (step place) s (token ∷ [])) led ∙ stuck) ∙ there.1)

same_first : (token other : Token) (rest more : List Token) → token ∷ rest ≡ other ∷ more → token ≡ other
same_first token other rest more is = cc

no_first : (other : Token) (more : List Token) → [] ≡ other ∷ more → ⊥
no_first other more is = cc

-- a run that is stuck stands at the first wrong token
pub stuck_is_first_wrong : (place : Place) (front rest : List Token) (state : State) → go place front ≡ Some state → IsStuck (step place) whole state rest → IsFirstWrong place (front ++ rest) rest
stuck_is_first_wrong place front [] state led stuck = record {
  front = front;
  split = refl;
  before = can_go_on place front state led;
  wrong = λ token more is. absurd (no_first token more is);
  unfinished = λ is sentence says.
      let there = reached place (front ++ []) sentence says in
      let same : there.state ≡ state = same_Some there.state state (sym there.led ∙ ap (go place) (append-nil front) ∙ led) in
      none-some says.tree (sym stuck ∙ sym (ap whole same) ∙ there.is_whole);
}
stuck_is_first_wrong place front (token ∷ rest) state led stuck = record {
  front = front;
  split = refl;
  before = can_go_on place front state led;
  wrong = λ other more is. let same : token ≡ other = same_first token other rest more is in λ on. no_step place front state token led stuck (subst (λ t. CanGoOn place (front ++ t ∷ [])) (sym same) on);
  unfinished = λ is sentence says. absurd (no_first token rest (sym is));
}

pub say_or_go_wrong : SayOrGoWrong
say_or_go_wrong place tokens = by (go place tokens) refl
  where
    by_whole : (state : State) → go place tokens ≡ Some state → (tree : Option LineTree) → whole state ≡ tree
        → ((sentence : Sentence) × IsLine place tokens sentence) ⊎ ((rest : List Token) × IsFirstWrong place tokens rest)
    by_whole state led (Some tree) is = inl (sentence_of tree, says_whole place tokens state tree led is)
    by_whole state led None is = inr ([], subst (λ ts. IsFirstWrong place ts []) (append-nil tokens) (stuck_is_first_wrong place tokens [] state led is))

    by : (state : Option State) → go place tokens ≡ state → ((sentence : Sentence) × IsLine place tokens sentence) ⊎ ((rest : List Token) × IsFirstWrong place tokens rest)
    by (Some state) led = by_whole state led (whole state) refl
    by None led =
        let stops = run-stops (step place) LineStart tokens led in
        inr (
          stops.token ∷ stops.back,
          subst (λ ts. IsFirstWrong place ts (stops.token ∷ stops.back)) (sym stops.split) (stuck_is_first_wrong place stops.front (stops.token ∷ stops.back) stops.state stops.led stops.stuck),
        )

-- what goes on, goes on with fewer tokens
goes_on_before : (place : Place) (front : List Token) (token : Token) (more : List Token) → CanGoOn place (front ++ token ∷ more) → CanGoOn place (front ++ token ∷ [])
goes_on_before place front token more on =
    record {
      more = more ++ on.more;
      sentence = on.sentence;
      says = subst (λ ts. IsLine place ts on.sentence) (again front more on.more) on.says;
    }
  where
    again : (f m o : List Token) → (f ++ token ∷ m) ++ o ≡ (f ++ token ∷ []) ++ (m ++ o)
    again f m o = simp append_assoc

pub say_or_go_wrong_alone : SayOrGoWrongAlone
say_or_go_wrong_alone place tokens [] sentence says goes = goes.unfinished refl sentence says
say_or_go_wrong_alone place tokens (token ∷ rest) sentence says goes =
    goes.wrong token rest refl
    (goes_on_before place goes.front token rest
    (record { more = []; sentence = sentence; says = subst (λ ts. IsLine place ts sentence) (goes.split ∙ sym (append-nil (goes.front ++ token ∷ rest))) says }))

-- Of two fronts of the same tokens one is the longer.
pub data Fronts (one other rest behind : List Token) : Type 0 where
  same : one ≡ other → rest ≡ behind → Fronts one other rest behind
  shorter : (token : Token) (more : List Token) → other ≡ one ++ token ∷ more → rest ≡ token ∷ (more ++ behind) → Fronts one other rest behind
  longer : (token : Token) (more : List Token) → one ≡ other ++ token ∷ more → behind ≡ token ∷ (more ++ rest) → Fronts one other rest behind

fronts : (one other rest behind : List Token) → one ++ rest ≡ other ++ behind → Fronts one other rest behind
fronts [] [] rest behind is = same refl is
fronts [] (token ∷ other) rest behind is = shorter token other refl is
fronts (token ∷ one) [] rest behind is = longer token one refl (sym is)
fronts (token ∷ one) (next ∷ other) rest behind is =
    let first : token ≡ next = same_first token next (one ++ rest) (other ++ behind) is in
    let others : one ++ rest ≡ other ++ behind = cc in
    by first (fronts one other rest behind others)
  where
    by : token ≡ next → Fronts one other rest behind → Fronts (token ∷ one) (next ∷ other) rest behind
    by first (same e r) = same (cc) r
    by first (shorter t more e r) = shorter t more (cc) r
    by first (longer t more e r) = longer t more (cc) r

pub go_wrong_once : GoWrongOnce
go_wrong_once place tokens one other wrong_one wrong_other = by (fronts wrong_one.front wrong_other.front one other (sym wrong_one.split ∙ wrong_other.split))
  where
    by : Fronts wrong_one.front wrong_other.front one other → one ≡ other
    by (same e r) = r
    by (shorter token more e r) =
        absurd (wrong_one.wrong token (more ++ other) r (goes_on_before place wrong_one.front token more (subst (CanGoOn place) e wrong_other.before)))
    by (longer token more e r) =
        absurd (wrong_other.wrong token (more ++ one) r (goes_on_before place wrong_other.front token more (subst (CanGoOn place) e wrong_one.before)))

-- the tokens of a line that get stuck go wrong there
pub gets_stuck_goes_wrong : (place : Place) (tokens rest : List Token) → GetsStuck (step place) whole LineStart tokens rest → IsFirstWrong place tokens rest
gets_stuck_goes_wrong place tokens rest gets =
    subst (λ ts. IsFirstWrong place ts rest) (sym gets.split) (stuck_is_first_wrong place gets.front rest gets.state gets.led gets.stuck)
