mod CostExamples
