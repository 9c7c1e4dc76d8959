-- Plain bytes stand between quotes as they are.
use Rattle.std.proofs.Common.{◌≡◌, ℕ, ◌==◌, if◌then◌else◌, Bool, true, false, ◌&&◌, List, [], ◌∷◌, ◌++◌, refl, ap, ◌∙◌}
use Rattle.std.specs.List.{flat_map, list_all}
use Rattle.reo_trace.specs.Escapes.{is_plain}
use Rattle.reo_trace.specs.ReportText.{escaped}

kept : (a b c d : Bool) (w x y z v : List ℕ) → (if a then false else (if b then false else (if c then false else (if d then false else true)))) ≡ true
    → (if a then w else (if b then x else (if c then y else (if d then z else v)))) ≡ v
kept true b c d w x y z v e = absurd (cc)
kept false true c d w x y z v e = absurd (cc)
kept false false true d w x y z v e = absurd (cc)
kept false false false true w x y z v e = absurd (cc)
kept false false false false w x y z v e = refl

plain_byte : (byte : ℕ) → is_plain byte ≡ true → escaped byte ≡ byte ∷ []
plain_byte byte e = kept (byte == 34) (byte == 92) (byte == 10) (byte == 9) _ _ _ _ (byte ∷ []) e

both : (a b : Bool) → (a && b) ≡ true → (a ≡ true) × (b ≡ true)
both true b e = (refl, e)
both false b e = absurd (cc)

pub plain_bytes : (bytes : List ℕ) → list_all is_plain bytes ≡ true → flat_map escaped bytes ≡ bytes
plain_bytes [] e = refl
plain_bytes (byte ∷ bytes) e =
    let split = both (is_plain byte) (list_all is_plain bytes) e in
    ap (λ l. l ++ flat_map escaped bytes) (plain_byte byte split.0) ∙ ap (λ l. byte ∷ l) (plain_bytes bytes split.1)
