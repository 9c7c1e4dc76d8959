-- Regions that are woken, table by table.
use Rattle.std.proofs.Common.{◌≡◌, ℕ, zero, suc, ◌+◌, ◌-◌, ◌<◌, ◌≤◌, ⊎_elim, List, [], ◌∷◌, length, take, drop, slice_get, get_or, Bool, true, false, not, Some, refl, sym, ap, ◌∙◌, subst, arith}
use Rattle.std.specs.Prelude.{All}
use Rattle.std.specs.List.{list_all}
use Rattle.std.proofs.lemmas.Bool.{cases_lt, not-true}
use Rattle.std.proofs.lemmas.Option.{slice_get-get_or}
use Rattle.std.proofs.lemmas.List.{take_more, length-take, length-drop, get_or-take, get_or-drop}
use Rattle.std.proofs.lemmas.List.Elements.{All-append}
use Rattle.reo_value.specs.declared.value.Value.{Value}
use Rattle.reo_fabric.specs.declared.entry.Entry.{Entry}
use Rattle.reo_growth.proofs.ListLemmas.{all_gives, among_at}
use Rattle.reo_session.specs.declared.watch.Watch.{Watch}
use Rattle.reo_session.specs.Watch.{AreAsleep, IsAsleep, IsUntouched, WakesAt}

pub all_one : {A : Type 0} (P : A → Type 0) (x : A) → P x → All P (x ∷ [])
all_one P x holds zero d below = holds
all_one P x holds (suc k) d below = absurd (omega (arith, below))

pub wakes_none : (table : List ℕ) (awake : List Bool) → WakesAt table [] awake awake
wakes_none table awake = record { long = refl; were = λ region asleep. asleep; apart = λ region asleep k d below. absurd (omega (arith, below)) }

-- so does one place more
pub wakes_more : (table : List ℕ) (places : List (ℕ × Value)) (old middle new : List Bool) (i : ℕ) (d : ℕ × Value) → i < length places → WakesAt table (take i places) old middle → length new ≡ length middle
    → ((region : ℕ) → IsAsleep new region → IsAsleep middle region) → ((region : ℕ) → IsAsleep new region → slice_get table (get_or places i d).0 ≡ Some region → ⊥) → WakesAt table (take (i + 1) places) old new
wakes_more table places old middle new i d within first long were apart = record {
  long = long ∙ first.long;
  were = λ region asleep. first.were region (were region asleep);
  apart = λ region asleep.
      let P : (ℕ × Value) → Type 0 = λ place. slice_get table place.0 ≡ Some region → ⊥ in
      subst (All P) (sym (take_more places i d within))
      (All-append P (take i places) (get_or places i d ∷ []) (first.apart region (were region asleep)) (all_one P (get_or places i d) (apart region asleep)));
}

-- all six tables and lists of places
module _ (watch : Watch) (entry : Entry) (a b c d e f g : List Bool) (one : WakesAt watch.fillers.items entry.takes a b) (two : WakesAt watch.takers.items entry.takes b c)
    (three : WakesAt watch.fillers.items entry.fills c d) (four : WakesAt watch.takers.items entry.fills d e) (five : WakesAt watch.regions.items entry.puts e f) (six : WakesAt watch.regions.items entry.gets f g) where
  pub long_then : length g ≡ length a
  long_then = six.long ∙ five.long ∙ four.long ∙ three.long ∙ two.long ∙ one.long

  pub asleep_before : (region : ℕ) → IsAsleep g region → IsAsleep a region
  asleep_before region asleep = one.were region (two.were region (three.were region (four.were region (five.were region (six.were region asleep)))))

  pub untouched : (region : ℕ) → IsAsleep g region → IsUntouched watch entry region
  untouched region asleep =
      let at_f = six.were region asleep in
      let at_e = five.were region at_f in
      let at_d = four.were region at_e in
      let at_c = three.were region at_d in
      record {
        takes_fillers = one.apart region (two.were region at_c);
        takes_takers = two.apart region at_c;
        fills_fillers = three.apart region at_d;
        fills_takers = four.apart region at_e;
        puts = five.apart region at_f;
        gets = six.apart region asleep;
      }

-- so are those of a run of marks of which none is awake
pub asleep_further : (awake slice : List Bool) (from start size n : ℕ) → slice ≡ take n (drop start awake) → n ≡ size → start + size ≤ length awake → list_all not slice ≡ true → AreAsleep awake from start → AreAsleep awake from (start + size)
asleep_further awake slice from start size n is sized within none before k after below = ⊎_elim
    (λ early. before k after early)
    (λ late.
    let read : get_or slice (k - start) false ≡ get_or awake k false =
    ap (λ xs. get_or xs (k - start) false) is ∙ get_or-take n (drop start awake) (k - start) false (omega (arith, below, late, sized)) ∙ get_or-drop start awake (k - start) false
    ∙ ap (λ j. get_or awake j false) (let e : start + (k - start) ≡ k = omega (arith, late) in e) in
    let long : k - start < length slice = omega (arith, below, late, sized, within, ap length is, length-take n (drop start awake), length-drop start awake) in
    slice_get-get_or awake k false (omega (arith, below, within)) ∙ ap Some (sym read ∙ not-true (get_or slice (k - start) false) (all_gives not slice (get_or slice (k - start) false) none (among_at slice (k - start) false long))))
    (cases_lt k start)

-- and one more that is
pub asleep_one : (awake : List Bool) (from start : ℕ) (d : Bool) → start < length awake → get_or awake start d ≡ false → AreAsleep awake from start → AreAsleep awake from (start + 1)
asleep_one awake from start d within is before k after below = ⊎_elim
    (λ early. before k after early)
    (λ late. let same : k ≡ start = omega (arith, below, late) in ap (slice_get awake) same ∙ slice_get-get_or awake start d within ∙ ap Some is)
    (cases_lt k start)
