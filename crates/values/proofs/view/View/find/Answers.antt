-- `values::view::View::find` meets its contract. Each arm by its law of Laws/Finding. Assumes nothing.
use Rattle.values.proofs.Laws.Finding.{set_found, xor-found, mul-found, app-found, rand-found}
use Rattle.values.proofs.view.View.find.Goals as goal

pub returns-in-Set : goal.returns-in-Set
returns-in-Set c = set_found c.in-Set.is c.locate.ensures

pub returns-in-Xor : goal.returns-in-Xor
returns-in-Xor c =
    xor-found c.in-Xor.is c.args.self.narrow
    c.locate-in-Xor.ensures c.locate-in-Xor-2.ensures

pub returns-in-Mul : goal.returns-in-Mul
returns-in-Mul c =
    mul-found c.in-Mul.is c.args.self.narrow
    c.locate-in-Mul.ensures c.locate-in-Mul-2.ensures

pub returns-in-App : goal.returns-in-App
returns-in-App c = app-found c.in-App.is c.args.self.narrow c.requires c.locate-in-App.ensures

pub returns-in-Rand : goal.returns-in-Rand
returns-in-Rand c = rand-found c.in-Rand.is c.requires
