use Rattle.html5places.proofs.OriginBytes.{all-bytes_come}
use Rattle.html5places.proofs.laws.bytes_come_from_their_origins.Goals as goal

pub returns : goal.returns
returns c = all-bytes_come
