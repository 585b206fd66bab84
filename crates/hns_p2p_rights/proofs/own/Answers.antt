use Rattle.hns_p2p_rights.proofs.Lent.{own_no_role, own_cut}
use Rattle.hns_p2p_rights.proofs.own.Goals as goal

pub returns-then-role-ge8 : goal.returns-then-role-ge8
returns-then-role-ge8 c = own_no_role c.args.terms.now c.in-Some.ensures.cases.0 c.if-role-ge8.true

pub returns-in-None : goal.returns-in-None
returns-in-None c = own_cut c.args.terms.now c.in-Some.ensures.cases.0 c.if-role-ge8.false c.in-None.ensures.cases
