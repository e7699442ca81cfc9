use Rattle.std.proofs.Common.{◌≡◌, rules, arith}
use Rattle.rules.specs.declared.Activity.TheVariants.{Kept}
use Rattle.rules.specs.declared.TrapKind.TheVariants.{Interrupt, Call}
use Rattle.core_tables.proofs.Codes.{running_code, interrupt_code, call_code}
use Rattle.core_tables.proofs.words.activity_word.Goals as goal

pub returns-in-Running : goal.returns-in-Running
returns-in-Running c = rw c.in-Running.is (running_code _ (omega arith))

pub returns-in-Kept-default-Interrupt : goal.returns-in-Kept-default-Interrupt
returns-in-Kept-default-Interrupt c =
    let e : c.args.a ≡ Kept c.in-Kept-default-Interrupt.d Interrupt = search rules in
    rw e (interrupt_code _ (omega arith))

pub returns-in-Kept-default-Call : goal.returns-in-Kept-default-Call
returns-in-Kept-default-Call c =
    let e : c.args.a ≡ Kept c.in-Kept-default-Call.d Call = search rules in
    rw e (call_code _ (omega arith))
