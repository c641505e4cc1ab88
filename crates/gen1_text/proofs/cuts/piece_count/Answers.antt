use Rattle.std.proofs.Common.{ap, arith, inl, length}
use Rattle.gen1_text.proofs.TextLemmas.{length-pieces_of}
use Rattle.gen1_text.proofs.cuts.piece_count.Goals as goal

pub count-requires-clause-fits : goal.count-requires-clause-fits
count-requires-clause-fits c = inl (omega (arith, ap length c.new.ensures, length-pieces_of c.args.separator c.args.text.now))
