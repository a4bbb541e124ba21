-- The lines of the request, byte for byte. Assumes nothing.
use Rattle.std.specs.Prelude.{◌≡◌, refl}
use Rattle.script.specs.Text as texts
use Rattle.script.specs.Text.{text}
use Rattle.script.specs.declared.entry.Field.TheVariants.{Cycles, Pulses}
use Rattle.compare.specs.Line.{line}
use Rattle.compare.specs.declared.verdict.Log.TheVariants.{First, Second}
use Rattle.compare.specs.declared.verdict.Verdict.TheVariants.{Refused, Record, Partial, Beginning, Equal}

pub lines :
    (line Equal ≡ text "equal\n") × (line (Record 3 Cycles) ≡ text "record 3 cycles\n") ×
    (line (Record 3 (Pulses 4)) ≡ text "record 3 pulses 4\n") × (line (Partial First) ≡ text "partial 1\n") ×
    (line (Beginning Second) ≡ text "beginning 2\n") × (line (Refused First 12) ≡ text "refused 1 12\n")
unfolding line texts.decimal_within
lines = (refl, refl, refl, refl, refl, refl)
