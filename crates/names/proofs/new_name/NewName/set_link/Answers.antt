use Rattle.std.proofs.Common.{refl}
use Rattle.names.proofs.Links.{at_head, at_record}
use Rattle.names.proofs.new_name.NewName.set_link.Goals as goal

pub returns-then-self-eq0 : goal.returns-then-self-eq0
returns-then-self-eq0 c =
    let it = at_head c.args.heads.now c.args.names.now c.args.self.branch c.args.self.last c.args.self.branch c.args.at c.if-self-eq0.true in
    record { heads_after = it.0; names_after = it.1 }

pub returns-else-self-eq0 : goal.returns-else-self-eq0
returns-else-self-eq0 c =
    let it = at_record c.args.heads.now c.args.names.now c.args.self.branch c.args.self.last c.args.self.branch c.args.at _ c.if-self-eq0.false c.requires.link_fits refl in
    record { heads_after = it.0; names_after = it.1 }
