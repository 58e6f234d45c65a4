use Rattle.mail_frames.proofs.Built.{content_behind}
use Rattle.mail_frames.proofs.builds.content.Goals as goal

pub returns-else-front-ge-HEAD : goal.returns-else-front-ge-HEAD
returns-else-front-ge-HEAD c = content_behind c.args.front.now c.args.back.now c.if-front-ge-HEAD.false
