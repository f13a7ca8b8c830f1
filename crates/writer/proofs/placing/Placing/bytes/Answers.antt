use Rattle.std.proofs.Common.{refl, ◌∙◌, ap, length, arith}
use Rattle.common.specs.Store.{put_at}
use Rattle.writer.proofs.PlaceLaws.{put-part}
use Rattle.writer.proofs.placing.Placing.bytes.Goals as goal

pub returns : goal.returns
returns c =
    record {
      same_list = refl;
      place = refl;
      inside = c.requires;
      holds = put-part _ _ _ _ (ap length c.copy_from_slice.ensures.after ∙ omega arith) ∙ ap (put_at c.args.self.now.list.now c.args.self.now.at) c.copy_from_slice.ensures.after;
    }
