use Rattle.reader.proofs.AnswerLaws.{sheet_written}
use Rattle.reader.proofs.write_sheet.Goals as goal

pub returns : goal.returns
returns c = sheet_written c.args.text.bytes.now c.args.out.now _ _ c.args.written.parts c.args.written.notes c.args.written.at c.run.result c.args.text.short c.requires.utf8 c.requires.measured c.requires.room c.run.ensures c.put.ensures
