-- All rows, then the end record right behind them (`end_more`).
use Rattle.image.proofs.saving.Laws.{end_more}
use Rattle.image.proofs.saving.put_text.Goals as goal

pub returns : goal.returns
returns c =
    end_more c.args.share.now c.args.text.now c.requires.1 c.put_rows-at.ensures c.put_record.ensures
