-- Whose a port is, as scripts grow.
use Prim.Native.Nat.{zero}
use Rattle.std.proofs.Common.{◌≡◌, ℕ, suc, ◌+◌, ◌-◌, ◌<◌, ◌==◌, nat_lt, if◌then◌else◌, Bool, true, false, ◌||◌, List, [], ◌∷◌, ◌++◌, length, set, get_or, take, Option, Some, None, slice_get, unwrap_or, refl, sym, ap, ◌∙◌, arith}
use Rattle.std.specs.List.{list_any}
use Rattle.std.specs.Option.{option_map, option_or}
use Rattle.std.proofs.lemmas.Bool.{false≢true, eqb-true, eq-eqb, ltb-true, lt-ltb}
use Rattle.std.proofs.lemmas.Option.{slice_get-get_or}
use Rattle.std.proofs.lemmas.List.Folds.{list_any-append}
use Rattle.reo_value.specs.Op.{port_of}
use Rattle.reo_value.specs.declared.op.Op.{Op}
use Rattle.reo_document.specs.Placed.{is_taken, with_operation}
use Rattle.reo_document.proofs.ListLemmas.{slice_get-set_same, slice_get-set_other}
use Rattle.reo_value.specs.declared.value.Value.{Value}
use Rattle.reo_document.specs.Builder.{operation_at, uses, owner_of, noted_at, is_before, Claims}

-- comparisons that say the same
same_test : (a b c d : ℕ) → (a < b → c < d) → (c < d → a < b) → nat_lt a b ≡ nat_lt c d
same_test a b c d forth back = by (nat_lt a b) (nat_lt c d) refl refl
  where
    by : (p q : Bool) → nat_lt a b ≡ p → nat_lt c d ≡ q → p ≡ q
    by true true x y = refl
    by false false x y = refl
    by true false x y = absurd (false≢true (sym y ∙ lt-ltb c d (forth (ltb-true a b x))))
    by false true x y = absurd (false≢true (sym x ∙ lt-ltb a b (back (ltb-true c d y))))

before_none : (owner : Option ℕ) → is_before 0 owner ≡ false
before_none None = refl
before_none (Some owner) = same_test owner 0 0 0 (λ less. absurd (omega (arith, less))) (λ less. absurd (omega (arith, less)))

before_next : (n : ℕ) (owner : Option ℕ) → is_before (suc n) (option_map suc owner) ≡ is_before n owner
before_next n None = refl
before_next n (Some owner) = same_test (suc owner) (suc n) owner n (λ less. omega (arith, less)) (λ less. omega (arith, less))

-- one of the first so many scripts uses a port just where its owner is one of them
before-take : (n : ℕ) (scripts : List (List Op)) (port : ℕ) → is_before n (owner_of scripts port) ≡ list_any (uses port) (take n scripts)
unfolding owner_of
before-take zero [] port = refl
before-take (suc n) [] port = refl
before-take zero (script ∷ scripts) port = before_none (if uses port script then Some 0 else option_map suc (owner_of scripts port))
before-take (suc n) (script ∷ scripts) port = by (uses port script) (owner_of scripts port) (before-take n scripts port)
  where
    by : (used : Bool) (owner : Option ℕ) → is_before n owner ≡ list_any (uses port) (take n scripts)
        → is_before (suc n) (if used then Some 0 else option_map suc owner) ≡ (used || list_any (uses port) (take n scripts))
    by true owner is = lt-ltb 0 (suc n) (omega arith)
    by false owner is = before_next n owner ∙ is

pub taken_by_owner : (scripts : List (List Op)) (owners : List (Option ℕ)) (port : ℕ) → ((p : ℕ) → noted_at owners p ≡ owner_of scripts p)
    → is_before (length scripts - 1) (noted_at owners port) ≡ is_taken scripts port
taken_by_owner scripts owners port knows = ap (is_before (length scripts - 1)) (knows port) ∙ before-take (length scripts - 1) scripts port

-- a script without operations uses no port
pub owner_of-empty : (scripts : List (List Op)) (port : ℕ) → owner_of (scripts ++ [] ∷ []) port ≡ owner_of scripts port
unfolding owner_of
owner_of-empty [] port = refl
owner_of-empty (script ∷ scripts) port = ap (λ owner. if uses port script then Some 0 else option_map suc owner) (owner_of-empty scripts port)

first_if : Bool → Option ℕ
first_if used = if used then Some 0 else None

-- one operation more, in the last script
owner_of-set : (scripts : List (List Op)) (last : ℕ) (o : Op) (port : ℕ) → last + 1 ≡ length scripts
    → owner_of (set scripts last (get_or scripts last [] ++ o ∷ [])) port ≡ (if port_of o == port then option_or (owner_of scripts port) (Some last) else owner_of scripts port)
unfolding owner_of first_if
owner_of-set [] last o port is = absurd (omega (arith, is))
owner_of-set (script ∷ script_2 ∷ scripts) zero o port is = absurd (omega (arith, is))
owner_of-set (script ∷ []) zero o port is = ap first_if (list_any-append (λ q. port_of q == port) script (o ∷ [])) ∙ by (uses port script) (port_of o == port)
  where
    by : (used same : Bool) → first_if (used || (same || false)) ≡ (if same then option_or (first_if used) (Some 0) else first_if used)
    by true true = refl
    by true false = refl
    by false true = refl
    by false false = refl
owner_of-set (script ∷ scripts) (suc last) o port is =
    ap (λ owner. if uses port script then Some 0 else option_map suc owner) (owner_of-set scripts last o port (omega (arith, is)))
    ∙ by (uses port script) (port_of o == port) (owner_of scripts port)
  where
    by : (used same : Bool) (owner : Option ℕ) → (if used then Some 0 else option_map suc (if same then option_or owner (Some last) else owner))
        ≡ (if same then option_or (if used then Some 0 else option_map suc owner) (Some (suc last)) else (if used then Some 0 else option_map suc owner))
    by true true owner = refl
    by true false owner = refl
    by false true None = refl
    by false true (Some n) = refl
    by false false owner = refl

pub owners_claimed : (scripts later : List (List Op)) (owners after : List (Option ℕ)) (o : Op) (port last : ℕ) → port_of o ≡ port → last + 1 ≡ length scripts → last ≡ length scripts - 1
    → later ≡ with_operation scripts o → Claims owners after port last → ((p : ℕ) → noted_at owners p ≡ owner_of scripts p) → (p : ℕ) → noted_at after p ≡ owner_of later p
owners_claimed scripts later owners after o port last at is place grown claims knows p =
    claims p
    ∙ ap (λ owner. if port == p then option_or owner (Some last) else owner) (knows p)
    ∙ ap (λ n. if n == p then option_or (owner_of scripts p) (Some last) else owner_of scripts p) (sym at)
    ∙ sym (owner_of-set scripts last o p is)
    ∙ ap (λ n. owner_of (set scripts n (get_or scripts n [] ++ o ∷ [])) p) place
    ∙ ap (λ ss. owner_of ss p) (sym grown)

-- a place without an owner at the end changes none
pub noted_at-push : {A : Type 0} (owners : List (Option A)) (port : ℕ) → noted_at (owners ++ None ∷ []) port ≡ noted_at owners port
noted_at-push [] zero = refl
noted_at-push [] (suc port) = refl
noted_at-push (owner ∷ owners) zero = refl
noted_at-push (owner ∷ owners) (suc port) = noted_at-push owners port

-- an owner that is noted
noted_at-set : {A : Type 0} (owners : List (Option A)) (port p : ℕ) (owner : Option A) → port < length owners → noted_at (set owners port owner) p ≡ (if port == p then owner else noted_at owners p)
noted_at-set owners port p owner within = by (port == p) refl
  where
    by : (here : Bool) → (port == p) ≡ here → noted_at (set owners port owner) p ≡ (if here then owner else noted_at owners p)
    by true here = ap (λ o. unwrap_or o None) (ap (slice_get (set owners port owner)) (sym (eqb-true port p here)) ∙ slice_get-set_same owners port owner within)
    by false other = ap (λ o. unwrap_or o None) (slice_get-set_other owners port p owner (λ same. false≢true (sym other ∙ eq-eqb port p (sym same))))

pub claimed : {A : Type 0} (first owners after : List (Option A)) (port : ℕ) (owner : A) (x : Option A) → ((p : ℕ) → noted_at owners p ≡ noted_at first p) → port < length owners → x ≡ get_or owners port x
    → after ≡ set owners port (option_or x (Some owner)) → Claims first after port owner
claimed first owners after port owner x same within is set_it p =
    ap (λ os. noted_at os p) set_it ∙ noted_at-set owners port p (option_or x (Some owner)) within ∙ by (port == p) refl
  where
    by : (here : Bool) → (port == p) ≡ here → (if here then option_or x (Some owner) else noted_at owners p) ≡ (if here then option_or (noted_at first p) (Some owner) else noted_at first p)
    by false other = same p
    by true here = ap (λ o. option_or o (Some owner)) (is ∙ at_port ∙ same p)
      where
        at_port : get_or owners port x ≡ noted_at owners p
        at_port = sym (ap (λ o. unwrap_or o None) (slice_get-get_or owners port x within)) ∙ ap (noted_at owners) (eqb-true port p here)

nobody : (p : ℕ) → noted_at [] p ≡ owner_of [] p
unfolding owner_of
nobody p = refl

pub owners_new : (owners : List (Option ℕ)) (scripts : List (List Op)) → owners ≡ [] → scripts ≡ [] → (port : ℕ) → noted_at owners port ≡ owner_of scripts port
owners_new owners scripts none also port = ap (λ os. noted_at os port) none ∙ nobody port ∙ ap (λ ss. owner_of ss port) (sym also)

pub port_of-operation_at : (port : ℕ) (value : Option Value) → port_of (operation_at port value) ≡ port
port_of-operation_at port None = refl
port_of-operation_at port (Some value) = refl
