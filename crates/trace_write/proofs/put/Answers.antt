-- `trace_write::put` meets its contract: one part of the output is filled behind the other.
use Rattle.std.proofs.Common.{arith}
use Rattle.rules.specs.Bytes.{big_endian}
use Rattle.rules.proofs.BigEndian.{length_big_endian}
use Rattle.trace_write.proofs.Outputs.{put_over}
use Rattle.trace_write.proofs.put.Goals as goal

pub returns-clause-out_after : goal.returns-clause-out_after
returns-clause-out_after c =
    put_over (big_endian c.args.k c.args.n) c.args.others.now c.args.out.now c.store.new.out c.copy_from_slice.new.self
    c.args.k _ (length_big_endian c.args.k c.args.n) c.requires c.store.ensures c.copy_from_slice.ensures.after
    (omega arith)
