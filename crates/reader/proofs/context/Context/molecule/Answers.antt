use Rattle.reader.proofs.Molecules.{molecule_reads}
use Rattle.reader.proofs.context.Context.molecule.Goals as goal

pub returns : goal.returns
returns c =
    rw (c.then_some.ensures, c.join.ensures, c.molecule.ensures, c.join-terms.ensures)
    (molecule_reads c.args.self.table.now c.args.self.depth c.args.s.now c.in_ok-parts.s c.in_ok-s.ensures.value c.in_ok-object.ensures
    c.in_ok-parts.ensures)
