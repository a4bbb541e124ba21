-- The numbers are those of the bytes. Assumes nothing.
use Rattle.std.proofs.Common.{◌≡◌, arith}
use Rattle.devices.proofs.Laws.Cases.{cases}
use Rattle.script.specs.Number.{number}
use Rattle.script.proofs.format.Format.judge.Goals as goal

pub returns-then-mark-self : goal.returns-then-mark-self
unfolding number
returns-then-mark-self c =
    let mark : number 0 3 c.args.file.now ≡ c.from_be_bytes-mark.result = omega arith in
    rw mark (search cases)

pub returns-then-version-self : goal.returns-then-version-self
unfolding number
returns-then-version-self c =
    let mark : number 0 3 c.args.file.now ≡ c.from_be_bytes-mark.result = omega arith in
    let version : number 3 2 c.args.file.now ≡ c.from_be_bytes-version.result = omega arith in
    rw (mark, version) (search cases)

pub returns : goal.returns
unfolding number
returns c =
    let mark : number 0 3 c.args.file.now ≡ c.from_be_bytes-mark.result = omega arith in
    let version : number 3 2 c.args.file.now ≡ c.from_be_bytes-version.result = omega arith in
    rw (mark, version) (search cases)
