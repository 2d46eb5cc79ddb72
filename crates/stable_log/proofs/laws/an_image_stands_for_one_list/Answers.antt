use Rattle.stable_log.proofs.OneList.{one_list}
use Rattle.stable_log.proofs.laws.an_image_stands_for_one_list.Goals as goal

pub returns : goal.returns
returns c image payloads others s t = one_list image payloads others s t
