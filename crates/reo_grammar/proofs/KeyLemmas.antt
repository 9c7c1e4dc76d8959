-- What a word means by its key.
use Rattle.std.proofs.Common.{◌≡◌, ℕ, Bool, true, false, List, codes, refl, if◌then◌else◌}
use Rattle.std.proofs.lemmas.Slice.Eq.{bytes_eq-Decides}
use Rattle.reo_grammar.specs.declared.key.Key.{Key}
use Rattle.reo_grammar.specs.declared.key.Key.TheVariants as key
use Rattle.reo_grammar.specs.Key.{spelled, is, key_of, circuit_key_of, guard_key_of, function_key_of}

-- a word with this key is spelled as the key is, where the key means something
abbrev pub IsSpelled : Key → List ℕ → Type 0
IsSpelled key.Other bytes = Unit {0}
IsSpelled key bytes = bytes ≡ spelled key

-- one test of the chain
tested : (bytes name : List ℕ) (first rest : Key) → (bytes ≡ name → IsSpelled first bytes) → IsSpelled rest bytes → IsSpelled (if is bytes name then first else rest) bytes
tested bytes name first rest meant more = by (is bytes name) refl
  where
    by : (same : Bool) → is bytes name ≡ same → IsSpelled (if same then first else rest) bytes
    by true same = meant ((bytes_eq-Decides bytes name).0 same)
    by false differs = more

function_spelled : (bytes : List ℕ) → IsSpelled (function_key_of bytes) bytes
function_spelled bytes = tested bytes (codes "neg") key.Neg _ (λ e. e) (tested bytes (codes "map") key.Map key.Other (λ e. e) tt)

guard_spelled : (bytes : List ℕ) → IsSpelled (guard_key_of bytes) bytes
guard_spelled bytes =
    tested bytes (codes "x") key.X _ (λ e. e)
    (tested bytes (codes "and") key.And _ (λ e. e)
    (tested bytes (codes "or") key.Or _ (λ e. e)
    (tested bytes (codes "not") key.Not _ (λ e. e)
    (tested bytes (codes "mod") key.Mod _ (λ e. e)
    (tested bytes (codes "is") key.Is _ (λ e. e)
    (tested bytes (codes "int") key.Int _ (λ e. e)
    (tested bytes (codes "text") key.Text _ (λ e. e)
    (tested bytes (codes "len") key.Len _ (λ e. e)
    (tested bytes (codes "starts") key.Starts _ (λ e. e) (function_spelled bytes))))))))))

circuit_spelled : (bytes : List ℕ) → IsSpelled (circuit_key_of bytes) bytes
circuit_spelled bytes =
    tested bytes (codes "in") key.In _ (λ e. e)
    (tested bytes (codes "out") key.Out _ (λ e. e)
    (tested bytes (codes "sync") key.Sync _ (λ e. e)
    (tested bytes (codes "lossy") key.Lossy _ (λ e. e)
    (tested bytes (codes "drain") key.Drain _ (λ e. e)
    (tested bytes (codes "fifo") key.Fifo _ (λ e. e)
    (tested bytes (codes "full") key.Full _ (λ e. e)
    (tested bytes (codes "filter") key.Filter _ (λ e. e)
    (tested bytes (codes "transform") key.Transform _ (λ e. e)
    (tested bytes (codes "component") key.Component _ (λ e. e) (guard_spelled bytes))))))))))

pub key_spelled : (bytes : List ℕ) → IsSpelled (key_of bytes) bytes
unfolding key_of
key_spelled bytes = tested bytes (codes "put") key.Put _ (λ e. e) (tested bytes (codes "get") key.Get _ (λ e. e) (circuit_spelled bytes))
