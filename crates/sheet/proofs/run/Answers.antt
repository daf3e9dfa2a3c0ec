-- `sheet::run` meets its contract: each way out is one of the laws.
use Rattle.std.proofs.lemmas.Result.{err_from_is_err_and}
use Rattle.sheet.proofs.Refusals.{too_few_bytes, sheet_wrong, facts_wrong, run_refused, run_listed}
use Rattle.sheet.proofs.run.Goals as goal

pub returns-then-out-lt-MOST_BYTES : goal.returns-then-out-lt-MOST_BYTES
returns-then-out-lt-MOST_BYTES c =
    let t = too_few_bytes c.args.sheet.now c.args.out.now c.if-out-lt-MOST_BYTES.true in
    record { value = t.value; out_after = t.out_after }

pub returns-in_err-right : goal.returns-in_err-right
returns-in_err-right c =
    let p = err_from_is_err_and c.from_residual.result c.from_residual.ensures.1 in
    let t = sheet_wrong c.args.sheet.now c.args.out.now c.if-out-lt-MOST_BYTES.false c.in_err-right.ensures.refusal in
    rw (p.1, p.2) record { value = t.value; out_after = t.out_after }

pub returns-in_err-machine : goal.returns-in_err-machine
returns-in_err-machine c =
    let p = err_from_is_err_and c.from_residual-in_err-machine.result c.from_residual-in_err-machine.ensures.1 in
    let right = c.in_ok-right.right in
    let t = facts_wrong right.bytes.now c.args.out.now c.if-out-lt-MOST_BYTES.false right.right c.in_err-machine.ensures.refusal in
    rw (p.1, p.2, ← c.in_ok-right.ensures.same) record { value = t.value; out_after = t.out_after }

pub returns-in_err-ran : goal.returns-in_err-ran
returns-in_err-ran c =
    let p = err_from_is_err_and c.from_residual-in_err-ran.result c.from_residual-in_err-ran.ensures.1 in
    let right = c.in_ok-right.right in
    let t = run_refused right.bytes.now c.args.out.now c.if-out-lt-MOST_BYTES.false right.right
    c.in_ok-machine.ensures.refusal c.in_ok-machine.ensures.machine c.in_err-ran.ensures.refusal in
    rw (p.1, p.2, ← c.in_ok-right.ensures.same) record { value = t.value; out_after = t.out_after }

pub returns : goal.returns
returns c =
    let right = c.in_ok-right.right in
    let t = run_listed right.bytes.now c.args.out.now c.if-out-lt-MOST_BYTES.false right.right
    c.in_ok-machine.ensures.refusal c.in_ok-machine.ensures.machine c.in_ok-ran.ensures.refusal c.in_ok-ran.ensures.report
    c.write.ensures.value c.write.ensures.out_after in
    rw (← c.in_ok-right.ensures.same) record { value = t.value; out_after = t.out_after }
