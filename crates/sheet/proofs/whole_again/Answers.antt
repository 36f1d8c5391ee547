-- No move was taken out, or the text is read again.
use Rattle.sheet.proofs.Playing.{whole_still}
use Rattle.sheet.proofs.whole_again.Goals as goal

pub returns-else-idle-ne0 : goal.returns-else-idle-ne0
returns-else-idle-ne0 c = λ b s e k. whole_still k c.if-idle-ne0.false
