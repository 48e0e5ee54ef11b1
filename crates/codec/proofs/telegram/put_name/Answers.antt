use Rattle.codec.proofs.Telegrams.{put_padding}
use Rattle.codec.proofs.telegram.put_name.Goals as goal

pub returns : goal.returns
returns c = put_padding c.args.bytes.now.items c.args.name.now c.put.new.bytes.items c.put-2.new.bytes.items c.split_at.result.1.now c.put.ensures c.put-2.ensures c.split_at.ensures.back
