-- Paper 01, "Bench examples": those with *, shown from the definitions in one checked table. Each line has what the
-- definitions give and what the paper says. By paper 02, No. 3, "01's counting line, prescaler line and examples change": it
-- gives three of the timers' new numbers, and the others follow from its rule, as the comments say. By No. 4 "the example at
-- 0x80000200" changes, and some of its own rules are shown too, as are some of No. 5's.
use Rattle.std.specs.Prelude.{ℕ, ◌+◌, ◌≡◌, refl, true, List, [], ◌∷◌, ◌++◌, map}
use Rattle.std.proofs.Common.{ap, ap₂, ◌∙◌}
use Rattle.devices.specs.Apbuart as uart
use Rattle.devices.specs.Gptimer as gpt
use Rattle.devices.proofs.Laws.Gptimer.FromReset.{largest, one_less, skip_from_reset, skip_one_less}
use Rattle.devices.specs.Irqmp as irq
use Rattle.devices.specs.declared.gptimer.Elapsed.{Elapsed}
use Rattle.bus.specs.Board.{gr712rc}
use Rattle.bus.specs.Machine.{Machine, Answer, reset_state, pulses_of, well_formed, all_well, levels_of}
use Rattle.bus.specs.Time as time
use Rattle.bus.proofs.Laws.Time.{of_unit, skip_unit}
use Rattle.bus.specs.Call.{refusal, answer}
use Rattle.bus.proofs.Laws.Call.{skip_well}
use Rattle.bus.specs.SlowRun.{after}
use Rattle.bus.specs.declared.machine.Call.{Call}
use Rattle.bus.specs.declared.machine.Call.TheVariants.{Read, Write, Offer, Advance, Skip, Acknowledge}

record Example : Type 0 where
  given : ℕ
  said : ℕ

infix 70 ◌gives◌
abbrev ◌gives◌ : ℕ → ℕ → Example
given gives said = record { given = given; said = said }

-- the machine after some calls from reset, the answer to one more, and words there
abbrev from : List Call → Machine
from calls = after calls (reset_state gr712rc)

abbrev next : Call → List Call → Answer
next call calls = answer call (from calls)

abbrev word_at : ℕ → List Call → ℕ
word_at address calls = (next (Read address 4) calls).value

abbrev word_after : ℕ → Answer → ℕ
word_after address a = (answer (Read address 4) a.machine).value

abbrev store : ℕ → ℕ → Call
store address value = Write address 4 value

abbrev all_pulses : Answer → ℕ
all_pulses a = pulses_of 1 a + pulses_of 2 a + pulses_of 3 a + pulses_of 4 a

-- "Prescaler 0, reload 3; timer 1 counter and reload 2, control 0x0B; all else as after reset."
periodic : ℕ → List Call
periodic control =
    store 0x80000300 0 ∷ store 0x80000304 3 ∷ store 0x80000310 2 ∷ store 0x80000314 2 ∷ store 0x80000318 control ∷ []

-- "Same, timer 1 control 0x03, timer 2 counter and reload 3, control 0x2B."
chained : List Call
chained = periodic 0x03 ++ (store 0x80000320 3 ∷ store 0x80000324 3 ∷ store 0x80000328 0x2B ∷ [])

-- "Control 0x1B": timer 1 after its first pulse
pending : List Call
pending = periodic 0x0B ++ (Advance 12 ∷ [])

-- bytes for port 0
eight : List Call
eight = Offer 0 1 ∷ Offer 0 2 ∷ Offer 0 3 ∷ Offer 0 4 ∷ Offer 0 5 ∷ Offer 0 6 ∷ Offer 0 7 ∷ Offer 0 8 ∷ []

-- No. 4: lines 8 and 11 pending, all masks set; and line 8 forced too
lines8and11 : List Call
lines8and11 = store 0x80000240 0xFFFFFFFF ∷ store 0x80000204 0x900 ∷ []

abbrev forced : List Call
forced = store 0x80000240 0xFFFFFFFF ∷ store 0x80000204 0x100 ∷ store 0x80000208 0x100 ∷ Acknowledge ∷ []

-- No. 4: a byte for port 1, whose line is 17; all masks set
extended : List Call
extended = store 0x80000240 0xFFFFFFFF ∷ store 0x80100108 5 ∷ Offer 1 65 ∷ []

-- 02: "from reset the skip passes 4294967296 and leaves counter 0xFFFFFFFF". 01: "timer 4 pulses once, .. control 0x18." That
-- sets line 11. One cycle less: timer 4 has counted 65,535 times, down to 0, control is 0x09, and no line is set.
from_reset : (skipped skippedLess : Answer) → List Example
from_reset skipped skippedLess =
    skipped.cycles gives 4294967296 ∷
    pulses_of 4 skipped gives 1 ∷
    all_pulses skipped gives 1 ∷
    word_after 0x80000340 skipped gives 0xFFFFFFFF ∷
    word_after 0x80000348 skipped gives 0x18 ∷
    word_after 0x80000204 skipped gives 0x800 ∷
    word_after 0x80000340 skippedLess gives 0 ∷
    word_after 0x80000348 skippedLess gives 0x09 ∷
    word_after 0x80000204 skippedLess gives 0 ∷
    []

others : List Example
others =
    -- "Advance 12": the ticks of cycles 1, 5 and 9 find the counter at 2, 1 and 0: one pulse, counter 2. "Advance 13": one
    -- tick more and no pulse, counter 1.
    pulses_of 1 (next (Advance 12) (periodic 0x0B)) gives 1 ∷
    all_pulses (next (Advance 12) (periodic 0x0B)) gives 1 ∷
    word_at 0x80000310 (periodic 0x0B ++ (Advance 12 ∷ [])) gives 2 ∷
    pulses_of 1 (next (Advance 13) (periodic 0x0B)) gives 1 ∷
    all_pulses (next (Advance 13) (periodic 0x0B)) gives 1 ∷
    word_at 0x80000310 (periodic 0x0B ++ (Advance 13 ∷ [])) gives 1 ∷
    -- 02: "the chained example first pulses at cycle 45". 01: "Skip 100 passes" these, "timer 2 control 0x3B." One cycle less
    -- has none, nor has 01's "Skip 20 passes 20, no pulse."
    (next (Skip 100) chained).cycles gives 45 ∷
    word_at 0x80000328 (chained ++ (Skip 100 ∷ [])) gives 0x3B ∷
    (next (Skip 44) chained).cycles gives 44 ∷
    all_pulses (next (Skip 44) chained) gives 0 ∷
    (next (Skip 20) chained).cycles gives 20 ∷
    all_pulses (next (Skip 20) chained) gives 0 ∷
    -- "Control 0x1B: writing 0x0B leaves 0x1B; writing 0x1B leaves 0x0B."
    word_at 0x80000318 pending gives 0x1B ∷
    word_at 0x80000318 (pending ++ (store 0x80000318 0x0B ∷ [])) gives 0x1B ∷
    word_at 0x80000318 (pending ++ (store 0x80000318 0x1B ∷ [])) gives 0x0B ∷
    -- "CONTROL 1, one byte: STATUS 0x84000087; eight bytes: 0xA0000087; the ninth is refused with 8."
    word_at 0x80000104 (store 0x80000108 1 ∷ Offer 0 1 ∷ []) gives 0x84000087 ∷
    word_at 0x80000104 (store 0x80000108 1 ∷ eight) gives 0xA0000087 ∷
    (next (Offer 0 9) (store 0x80000108 1 ∷ eight)).refusal gives 8 ∷
    -- "CONTROL 5, one byte, DATA read: level still 1 until CONTROL is written."
    (next (Read 0x80000100 4) (store 0x80000108 5 ∷ Offer 0 1 ∷ [])).levels gives 1 ∷
    (next (store 0x80000108 5) (store 0x80000108 5 ∷ Offer 0 1 ∷ Read 0x80000100 4 ∷ [])).levels gives 0 ∷
    -- "Size 4 at 0x800001FE: 3. Size 2 at 0x80000101: 4. Size 1 at 0x800001FF: 5." At 0x80000200 lies the controller's window now:
    -- size 4 there is accepted. "Size 3 there: 1."
    (next (Read 0x800001FE 4) []).refusal gives 3 ∷
    (next (Read 0x80000101 2) []).refusal gives 4 ∷
    (next (Read 0x800001FF 1) []).refusal gives 5 ∷
    (next (Read 0x80000200 4) []).refusal gives 0 ∷
    (next (Read 0x80000200 3) []).refusal gives 1 ∷
    -- 02, No. 5: "Word accesses to an offset without a register get number 13, a bus error, checked after 5", "+0x0C of the timer
    -- blocks included". STATUS, which ignores writes, is a register.
    (next (Read 0x8000031C 4) []).refusal gives 13 ∷
    (next (store 0x8000031C 1) []).refusal gives 13 ∷
    (next (Read 0x80000110 4) []).refusal gives 13 ∷
    (next (Read 0x80000210 4) []).refusal gives 13 ∷
    (next (Read 0x8000031C 2) []).refusal gives 5 ∷
    (next (Read 0x8000031E 4) []).refusal gives 4 ∷
    (next (store 0x80000104 1) []).refusal gives 0 ∷
    -- 02, No. 4: "Level 1 goes before level 0, then the higher number."
    (next Acknowledge lines8and11).value gives 11 ∷
    (next Acknowledge (lines8and11 ++ (store 0x80000200 0x100 ∷ []))).value gives 8 ∷
    -- "Taking a line clears its force bit if set, else its pending bit"
    word_at 0x80000208 forced gives 0 ∷
    word_at 0x80000204 forced gives 0x100 ∷
    -- "the value read is the line taken (12 for an extended one)"; "notes its number"
    word_at 0x80000204 extended gives 0x20000 ∷
    (next Acknowledge extended).value gives 12 ∷
    word_at 0x800002C0 (extended ++ (Acknowledge ∷ [])) gives 17 ∷
    word_at 0x80000204 (extended ++ (Acknowledge ∷ [])) gives 0 ∷
    []

-- A skip from reset is too long to be done cycle by cycle: it is the timer unit's.
reset_well : well_formed (reset_state gr712rc) ≡ true
unfolding all_well uart.well_formed irq.well_formed
reset_well = refl

skipped :
    (limit : ℕ) (e : Elapsed) → gpt.skip limit gpt.reset_state ≡ e →
    next (Skip limit) [] ≡ time.of_span (of_unit e (reset_state gr712rc))
skipped limit e f =
    skip_well (reset_state gr712rc) reset_well limit ∙
    ap time.of_span (skip_unit limit (reset_state gr712rc) ∙ ap (λ (x : Elapsed). of_unit x (reset_state gr712rc)) f)

abbrev examples : (skipped skippedLess : Answer) → List Example
examples skipped skippedLess = from_reset skipped skippedLess ++ others

abbrev given : List Example → List ℕ
given es = map (λ (e : Example). e.given) es

checked :
    (let es = examples (next (Skip largest) []) (next (Skip one_less) []) in
    given es ≡ map (λ (e : Example). e.said) es)
unfolding from_reset others lines8and11 extended eight periodic chained pending gr712rc answer refusal all_well levels_of
    uart.well_formed uart.read uart.write uart.offer gpt.read gpt.write gpt.cycle gpt.cycle_pulses gpt.count gpt.count_underflows
    irq.well_formed irq.read irq.write irq.set_pending irq.acknowledge irq.line_taken irq.highest time.advance time.skip time.cycle
checked =
    ap₂ (λ (a b : Answer). given (examples a b)) (skipped largest _ skip_from_reset) (skipped one_less _ skip_one_less)
