use Rattle.std.proofs.Common.{arith}
use Rattle.profile_cli.proofs.Names.{all_names}
use Rattle.profile_cli.proofs.command.text_names.Goals as goal

pub returns : goal.returns
returns c = all_names c.args.options.now.generate c.args.options.now.files.items c.loop-file.file-index _ (let ends = c.loop-file-test.false in omega (arith, ends)) c.loop-file.invariant
