-- Laws of the runs of all machines.
use Rattle.std.proofs.Common.{◌≡◌, List, [], ◌∷◌, ◌++◌, Option, Some, None, IfSome, refl, sym, ap, subst, ◌∙◌, append_assoc, append-nil}
use Rattle.std.specs.Option.{option_map, option_and_then}
use Rattle.std.proofs.lemmas.Option.{none-some, same_Some}
use Rattle.reo_grammar.specs.Token.{Token}
use Rattle.reo_grammar.specs.Machine.Run.{run, IsStuck, GetsStuck}

pub run-append : {S : Type 0} (step : S → Token → Option S) (state : Option S) (front back : List Token) → run step state (front ++ back) ≡ run step (run step state front) back
unfolding run
run-append step state [] back = refl
run-append step state (token ∷ front) back = run-append step (option_and_then (λ s. step s token) state) front back

-- one step, and then the rest
pub run-step : {S : Type 0} (step : S → Token → Option S) (state next : S) (token : Token) (tokens : List Token) (end : Option S) → step state token ≡ Some next
    → run step (Some next) tokens ≡ end → run step (Some state) (token ∷ tokens) ≡ end
unfolding run
run-step step state next token tokens end is rest = ap (λ s. run step s tokens) is ∙ rest

pub run-none : {S : Type 0} (step : S → Token → Option S) (tokens : List Token) → run step None tokens ≡ None
unfolding run
run-none step [] = refl
run-none step (token ∷ tokens) = run-none step tokens

-- a machine inside another one
pub run-map : {S T : Type 0} (f : S → T) (inner : S → Token → Option S) (outer : T → Token → Option T) → ((s : S) (token : Token) → outer (f s) token ≡ option_map f (inner s token))
    → (state : Option S) (tokens : List Token) → run outer (option_map f state) tokens ≡ option_map f (run inner state tokens)
unfolding run
run-map f inner outer same state [] = refl
run-map f inner outer same None (token ∷ tokens) = run-map f inner outer same None tokens
run-map f inner outer same (Some s) (token ∷ tokens) =
    ap (λ next. run outer next tokens) (same s token) ∙ run-map f inner outer same (inner s token) tokens

pub IfSome-map : {A B : Type 0} (f : A → B) (P : B → Type 0) (o : Option A) → IfSome o (λ a. P (f a)) → IfSome (option_map f o) P
IfSome-map f P None h = h
IfSome-map f P (Some a) h = h

pub IfSome-of : {A : Type 0} (P : A → Type 0) (o : Option A) (a : A) → o ≡ Some a → IfSome o P → P a
IfSome-of P (Some b) a is h = subst P (same_Some b a is) h
IfSome-of P None a is h = absurd (none-some a is)

-- where each step adds its token to the tokens before a state, a run adds its tokens
pub run-adds : {S : Type 0} (step : S → Token → Option S) (before : S → List Token) → ((s : S) (token : Token) → IfSome (step s token) (λ next. before next ≡ before s ++ token ∷ []))
    → (s end : S) (tokens : List Token) → run step (Some s) tokens ≡ Some end → before end ≡ before s ++ tokens
unfolding run
run-adds step before adds s end [] is = ap before (sym (same_Some s end is)) ∙ sym (append-nil (before s))
run-adds {S} step before adds s end (token ∷ tokens) is = by (step s token) refl is (λ n e. run-adds step before adds n e tokens)
  where
    by : (next : Option S) → step s token ≡ next → run step next tokens ≡ Some end
        → ((n e : S) → run step (Some n) tokens ≡ Some e → before e ≡ before n ++ tokens)
        → before end ≡ before s ++ token ∷ tokens
    by None none led each = absurd (none-some end (sym (run-none step tokens) ∙ led))
    by (Some next) some led each =
        each next end led ∙ ap (λ b. b ++ tokens) (IfSome-of (λ n. before n ≡ before s ++ token ∷ []) (step s token) next some (adds s token)) ∙ append_assoc (before s) (token ∷ []) tokens

-- where each step keeps a fact, a run keeps it
pub run-keeps : {S : Type 0} (step : S → Token → Option S) (P : S → Type 0) → ((s : S) (token : Token) → IfSome (step s token) (λ next. P s → P next)) → (s end : S) (tokens : List Token)
    → run step (Some s) tokens ≡ Some end → P s → P end
unfolding run
run-keeps step P keeps s end [] is h = subst P (same_Some s end is) h
run-keeps {S} step P keeps s end (token ∷ tokens) is h = by (step s token) refl is (λ n e. run-keeps step P keeps n e tokens)
  where
    by : (next : Option S) → step s token ≡ next → run step next tokens ≡ Some end → ((n e : S) → run step (Some n) tokens ≡ Some e → P n → P e) → P end
    by None none led each = absurd (none-some end (sym (run-none step tokens) ∙ led))
    by (Some next) some led each = each next end led (IfSome-of (λ n. P s → P n) (step s token) next some (keeps s token) h)

-- what leads somewhere with more behind it, leads somewhere
pub run-front : {S : Type 0} (step : S → Token → Option S) (state : Option S) (front back : List Token) (end : S) → run step state (front ++ back) ≡ Some end → (middle : S) × (run step state front ≡ Some middle)
run-front {S} step state front back end led = by (run step state front) refl
  where
    by : (middle : Option S) → run step state front ≡ middle → (m : S) × (run step state front ≡ Some m)
    by (Some m) is = (m, is)
    by None is = absurd (none-some end (sym (run-append step state front back ∙ ap (λ s. run step s back) is ∙ run-none step back) ∙ led))

-- a run that leads nowhere stops at a token
pub record StopsAt {S : Type 0} (step : S → Token → Option S) (start : S) (tokens : List Token) : Type 0 where
  pub front : List Token
  pub token : Token
  pub back : List Token
  pub split : tokens ≡ front ++ token ∷ back
  pub state : S
  pub led : run step (Some start) front ≡ Some state
  pub stuck : step state token ≡ None

pub run-stops : {S : Type 0} (step : S → Token → Option S) (start : S) (tokens : List Token) → run step (Some start) tokens ≡ None → StopsAt step start tokens
unfolding run
run-stops step start [] is = absurd (none-some start (sym is))
run-stops {S} step start (token ∷ tokens) is = by (step start token) refl is (λ n. run-stops step n tokens)
  where
    by : (next : Option S) → step start token ≡ next → run step next tokens ≡ None → ((n : S) → run step (Some n) tokens ≡ None → StopsAt step n tokens) → StopsAt step start (token ∷ tokens)
    by None none led each = record { front = []; token = token; back = tokens; split = refl; state = start; led = refl; stuck = none }
    by (Some next) some led each =
        let rest = each next led in
        record {
          front = token ∷ rest.front;
          token = rest.token;
          back = rest.back;
          split = ap (λ ts. token ∷ ts) rest.split;
          state = rest.state;
          led = run-step step start next token rest.front (Some rest.state) some rest.led;
          stuck = rest.stuck;
        }

-- what is stuck behind some tokens, is stuck
pub stuck_after : {S T : Type 0} (step : S → Token → Option S) (whole : S → Option T) (start middle : S) (front tokens rest all : List Token) → run step (Some start) front ≡ Some middle
    → all ≡ front ++ tokens → GetsStuck step whole middle tokens rest → GetsStuck step whole start all rest
stuck_after step whole start middle front tokens rest all led split gets = record {
  front = front ++ gets.front;
  split = split ∙ ap (λ ts. front ++ ts) gets.split ∙ sym (append_assoc front gets.front rest);
  state = gets.state;
  led = run-append step (Some start) front gets.front ∙ ap (λ s. run step s gets.front) led ∙ gets.led;
  stuck = gets.stuck;
}

pub stuck_here : {S T : Type 0} (step : S → Token → Option S) (whole : S → Option T) (state : S) (tokens : List Token) → IsStuck step whole state tokens → GetsStuck step whole state tokens tokens
unfolding run
stuck_here step whole state tokens stuck = record { front = []; split = refl; state = state; led = refl; stuck = stuck }

-- what is stuck in a machine inside another one, is stuck in that
pub stuck_map : {S T U V : Type 0} (f : S → T) (g : U → V) (inner : S → Token → Option S) (outer : T → Token → Option T) (whole_inner : S → Option U) (whole_outer : T → Option V)
    → ((s : S) (token : Token) → outer (f s) token ≡ option_map f (inner s token)) → ((s : S) → whole_outer (f s) ≡ option_map g (whole_inner s)) → (start : S) (tokens rest : List Token)
    → GetsStuck inner whole_inner start tokens rest → GetsStuck outer whole_outer (f start) tokens rest
stuck_map f g inner outer whole_inner whole_outer steps wholes start tokens rest gets = record {
  front = gets.front;
  split = gets.split;
  state = f gets.state;
  led = run-map f inner outer steps (Some start) gets.front ∙ ap (option_map f) gets.led;
  stuck = by rest gets.stuck;
}
  where
    by : (r : List Token) → IsStuck inner whole_inner gets.state r → IsStuck outer whole_outer (f gets.state) r
    by [] stuck = wholes gets.state ∙ ap (option_map g) stuck
    by (token ∷ more) stuck = steps gets.state token ∙ ap (option_map f) stuck
