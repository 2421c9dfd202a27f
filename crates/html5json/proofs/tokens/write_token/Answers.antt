-- the search gives up at the last arm
use Rattle.html5json.proofs.tokens.write_token.Goals as goal

pub returns-in-EOFToken : goal.returns-in-EOFToken
returns-in-EOFToken g c = rw c.in-EOFToken.is c.write_bare-in-EOFToken.ensures
