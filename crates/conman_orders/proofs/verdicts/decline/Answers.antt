use Rattle.model.specs.History.{view_of}
use Rattle.model.specs.Verdicts.{verdict}
use Rattle.conman_orders.proofs.verdicts.decline.Goals as goal

pub returns-in-DelDep : goal.returns-in-DelDep
unfolding verdict
returns-in-DelDep c = rw c.in-DelDep.is (c.del_dep.ensures c.args.net.now)

pub returns-in-Release : goal.returns-in-Release
unfolding verdict
returns-in-Release c = rw c.in-Release.is (c.release.ensures c.args.net.now)

pub returns-in-AltPri : goal.returns-in-AltPri
unfolding verdict
returns-in-AltPri c = rw c.in-AltPri.is (c.alt_pri.ensures c.args.net.now)

pub returns-in-Cancel : goal.returns-in-Cancel
unfolding verdict
returns-in-Cancel c = rw c.in-Cancel.is (c.cancel.ensures c.args.net.now)

pub returns-in-Confirm : goal.returns-in-Confirm
unfolding verdict
returns-in-Confirm c = rw c.in-Confirm.is (c.confirm.ensures c.args.net.now)

pub returns-in-Kill : goal.returns-in-Kill
unfolding verdict
returns-in-Kill c = rw c.in-Kill.is (c.kill.ensures c.args.net.now)

pub returns-in-Rerun : goal.returns-in-Rerun
unfolding verdict
returns-in-Rerun c = rw c.in-Rerun.is (c.rerun.ensures c.args.net.now)

pub returns-in-StreamLimit : goal.returns-in-StreamLimit
unfolding verdict
returns-in-StreamLimit c = rw c.in-StreamLimit.is (c.stream_limit.ensures c.args.net.now)

pub returns-in-ReplyOwn : goal.returns-in-ReplyOwn
unfolding verdict
returns-in-ReplyOwn c = rw c.in-ReplyOwn.is (c.reply_own.ensures c.args.net.now)

pub returns-in-SwitchMgr : goal.returns-in-SwitchMgr
unfolding verdict
returns-in-SwitchMgr c = rw c.in-SwitchMgr.is (c.switch_mgr.ensures (view_of c.args.o.now))
