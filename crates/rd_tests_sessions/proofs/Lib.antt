mod Costing
