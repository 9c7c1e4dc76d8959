use Rattle.std.specs.Prelude.{ℤ, pos, neg_ℤ, ◌≤ℤ◌, ◌<ℤ◌}

-- an integer from -2^62 to 2^62 - 1
abbrev pub IsNumber : ℤ → Type 0
IsNumber z = (neg_ℤ (pos 4611686018427387904) ≤ℤ z) × (z <ℤ pos 4611686018427387904)
